use Rattle.std.proofs.lemmas.Result.{IfOk-weaker}
use Rattle.lk_facts.specs.EdgeRules.{Of}
use Rattle.lk_facts.specs.LabelRules.{IsPart}
use Rattle.lk_types.specs.declared.node.Sel.TheVariants.{Field, Target}
use Rattle.lk_flow.specs.Closing.{ParametersBoth, ResultsBoth}
use Rattle.lk_flow.specs.Counting.{AnyOf}
use Rattle.lk_flow.proofs.FieldLists.{results_put}
use Rattle.lk_flow.proofs.Finders.{joined, joins_two}
use Rattle.lk_flow.proofs.close.put_code.Goals as goal

pub returns : goal.returns
returns c =
    let program = c.args.points.now in
    let names = c.args.labels.now.names in
    let different = c.requires.labels.different in
    let m = c.args.edge.now.mark in
    IfOk-weaker c.put_parameters.result _ _ (λ _ adds u v code. joins_two names (ResultsBoth program u v m) (AnyOf (ParametersBoth program u v m)) c.args.found.now c.put.new.self c.put_parameters.new.found
    (results_put program names u v m c.args.found.now c.put.new.self code.from code.to
    (joined names different m (Of program (IsPart program u (Field 0)) Target) (Of program (IsPart program v (Field 0)) Target) c.behind-from.result c.behind-to.result c.args.found.now c.put.new.self (c.behind-from.ensures.found u code.ends.begins) (c.behind-to.ensures.found v code.ends.ends) c.in_ok-put.ensures)) (adds u v code)) c.put_parameters.ensures
