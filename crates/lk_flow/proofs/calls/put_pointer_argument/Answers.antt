use Rattle.std.proofs.lemmas.Result.{IfOk-weaker}
use Rattle.lk_facts.specs.EdgeRules.{Of, target, value}
use Rattle.lk_facts.specs.declared.edge.Mark.TheVariants.{Plain}
use Rattle.lk_types.specs.declared.node.Sel.TheVariants.{Field, Target}
use Rattle.lk_flow.proofs.Counting.{found_behind}
use Rattle.lk_flow.proofs.Finders.{joined}
use Rattle.lk_flow.proofs.calls.put_pointer_argument.Goals as goal

pub returns : goal.returns
returns c =
    let program = c.args.points.now in
    let names = c.args.labels.now.names in
    let different = c.requires.labels.different in
    let to = found_behind program names (target program c.args.a) c.args.k c.pointee-code.result c.behind-to.result c.pointee-code.ensures.found c.behind-to.ensures.found in
    IfOk-weaker c.put.result _ _ (λ _ adds. joined names different Plain (Of program (value program c.args.b) Target) (Of program (Of program (target program c.args.a) (Field c.args.k)) Target)
    c.pointee-from.result c.behind-to.result c.args.found.now c.put.new.self c.pointee-from.ensures.found to adds) c.put.ensures
