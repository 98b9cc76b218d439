use Rattle.std.proofs.lemmas.Result.{IfOk-weaker}
use Rattle.lk_facts.specs.EdgeRules.{Of, code}
use Rattle.lk_facts.specs.LabelRules.{IsWhole}
use Rattle.lk_facts.specs.declared.edge.Mark.TheVariants.{Enter}
use Rattle.lk_types.specs.declared.node.Sel.TheVariants.{Field, Target}
use Rattle.lk_flow.proofs.Counting.{found_behind, found_code}
use Rattle.lk_flow.proofs.Finders.{joined}
use Rattle.lk_flow.proofs.calls.put_parameter.Goals as goal

pub returns : goal.returns
returns c =
    let program = c.args.points.now in
    let names = c.args.labels.now.names in
    let different = c.requires.labels.different in
    let g = c.args.g in
    let place = found_code program names g c.function_root.result c.place-code.result c.function_root.ensures.value c.place-code.ensures.found in
    let from = found_behind program names (code program g) c.args.k c.place-code.result c.behind-from.result place c.behind-from.ensures.found in
    IfOk-weaker c.put.result _ _ (λ _ adds. joined names different (Enter c.args.site) (Of program (Of program (code program g) (Field c.args.k)) Target) (Of program (IsWhole program c.args.parameter) Target)
    c.behind-from.result c.pointee-to.result c.args.found.now c.put.new.self from c.pointee-to.ensures.found adds) c.put.ensures
