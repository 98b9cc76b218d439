use Rattle.std.proofs.Common.{◌∙◌, ap, sym, subst}
use Rattle.std.proofs.lemmas.Result.{IfOk-weaker}
use Rattle.lk_facts.specs.LabelRules.{is_function}
use Rattle.lk_types.specs.Table.{type_at}
use Rattle.lk_label.specs.Naming.{AreJoined}
use Rattle.lk_label.proofs.NodeLists.{function_put, object_put}
use Rattle.lk_label.proofs.named.put_places.Goals as goal

pub returns-then-is_function : goal.returns-then-is_function
returns-then-is_function c =
    function_put c.args.types.now c.args.node.now c.args.places.now
    (ap (λ t. is_function (type_at c.args.types.now t)) (sym c.node_type.ensures.value) ∙ (sym c.is_function.ensures ∙ c.if-is_function.true))

pub returns : goal.returns
returns c =
    IfOk-weaker c.put_all.result _ _ (λ _ joined. object_put c.args.types.now c.args.node.now c.args.places.now c.in_ok-parts.parts.items c.put_all.new.found
    (ap (λ t. is_function (type_at c.args.types.now t)) (sym c.node_type.ensures.value) ∙ (sym c.is_function.ensures ∙ c.if-is_function.false))
    c.in_ok-parts.ensures (subst (λ xs. AreJoined c.args.places.now xs c.put_all.new.found) c.deref.ensures.value joined)) c.put_all.ensures
