use Rattle.std.proofs.lemmas.Result.{IfOk-weaker}
use Rattle.lk_facts.specs.EdgeRules.{Of, PassesThrough, Sub, target, value}
use Rattle.lk_facts.specs.declared.edge.Mark.TheVariants.{Plain}
use Rattle.lk_types.specs.declared.node.Sel.TheVariants.{Field, Target}
use Rattle.lk_flow.proofs.Counting.{found_behind}
use Rattle.lk_flow.proofs.Finders.{joined, joins_two}
use Rattle.lk_flow.proofs.calls.put_pointer_call.Goals as goal

pub returns : goal.returns
returns c =
    let program = c.args.points.now in
    let names = c.args.labels.now.names in
    let different = c.requires.labels.different in
    let from = found_behind program names (target program c.args.a) 0 c.pointee-code.result c.behind-from.result c.pointee-code.ensures.found c.behind-from.ensures.found in
    IfOk-weaker c.put.result _ _ (λ _ adds. joins_two names (PassesThrough program c.args.a c.args.args.now) (Sub program Plain (Of program (target program c.args.a) (Field 0)) (value program c.args.p)) c.args.found.now c.put_pointer_arguments.new.found c.put.new.self c.in_ok-put_pointer_arguments.ensures
    (joined names different Plain (Of program (Of program (target program c.args.a) (Field 0)) Target) (Of program (value program c.args.p) Target) c.behind-from.result c.pointee-to.result c.put_pointer_arguments.new.found c.put.new.self from c.pointee-to.ensures.found adds)) c.put.ensures
