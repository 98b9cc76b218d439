use Rattle.std.proofs.lemmas.Result.{IfOk-weaker}
use Rattle.lk_facts.specs.EdgeRules.{Of, code, result}
use Rattle.lk_facts.specs.declared.edge.Mark.TheVariants.{Leave}
use Rattle.lk_types.specs.declared.node.Sel.TheVariants.{Field, Target}
use Rattle.lk_flow.proofs.Counting.{found_behind, found_code, value_some, value_none}
use Rattle.lk_flow.proofs.Finders.{joined}
use Rattle.lk_flow.proofs.calls.put_value.Goals as goal

pub returns-in_ok-put_passed-in-Some : goal.returns-in_ok-put_passed-in-Some
returns-in_ok-put_passed-in-Some c =
    let program = c.args.points.now in
    let names = c.args.labels.now.names in
    let different = c.requires.labels.different in
    let g = c.args.g in
    let i = c.in-Some.site in
    let place = found_code program names g c.function_root.result c.place-code.result c.function_root.ensures.value c.place-code.ensures.found in
    let to = found_behind program names (code program g) 0 c.place-code.result c.behind-to.result place c.behind-to.ensures.found in
    IfOk-weaker c.put.result _ _ (λ _ adds. value_some program names g i c.args.found.now c.put_passed.new.found c.put.new.self c.in-Some.ensures.value c.in_ok-put_passed-in-Some.ensures
    (joined names different (Leave i) (Of program (result program g) Target) (Of program (Of program (code program g) (Field 0)) Target) c.pointee-from.result c.behind-to.result c.put_passed.new.found c.put.new.self c.pointee-from.ensures.found to adds)) c.put.ensures

pub returns-in-None : goal.returns-in-None
returns-in-None c = value_none c.args.points.now c.args.labels.now.names c.args.g c.args.found.now c.in-None.ensures.value
