use Rattle.std.proofs.Common.{◌∙◌, ap, sym, subst}
use Rattle.std.proofs.lemmas.Result.{IfOk-weaker}
use Rattle.lk_types.specs.Table.{type_at}
use Rattle.lk_label.specs.Inner.{has_inner}
use Rattle.lk_label.specs.Naming.{AreJoined}
use Rattle.lk_label.proofs.Inside.{none_inner, object_inner}
use Rattle.lk_label.proofs.within.put_inner.Goals as goal

pub returns-then-not-has_inner : goal.returns-then-not-has_inner
returns-then-not-has_inner c =
    none_inner c.args.types.now c.args.node.now c.args.found.now
    (ap (λ t. has_inner (type_at c.args.types.now t)) (sym c.node_type.ensures.value) ∙ (sym c.has_inner.ensures ∙ c.if-not-has_inner.true))

pub returns : goal.returns
returns c =
    IfOk-weaker c.put_all.result _ _ (λ _ joined. object_inner c.args.types.now c.args.node.now c.args.found.now c.in_ok-parts.parts.items c.put_all.new.found
    (ap (λ t. has_inner (type_at c.args.types.now t)) (sym c.node_type.ensures.value) ∙ (sym c.has_inner.ensures ∙ c.if-not-has_inner.false))
    c.in_ok-parts.ensures (subst (λ xs. AreJoined c.args.found.now xs c.put_all.new.found) c.deref.ensures.value joined)) c.put_all.ensures
