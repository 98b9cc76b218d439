use Rattle.std.proofs.Common.{Some, sym, subst}
use Rattle.lk_elab_expr.specs.PassedArguments.{PassesAs}
use Rattle.lk_elab_expr.proofs.Passing.{as_converted, as_nothing}
use Rattle.lk_elab_expr.proofs.arguments.passed_to.Goals as goal

pub returns-in_ok-part-in-Converted-clause-passes : goal.returns-in_ok-part-in-Converted-clause-passes
returns-in_ok-part-in-Converted-clause-passes c =
    let old = c.args.walk.now in
    let new = c.given_part.new.walk in
    let part = c.in_ok-part-in-Converted.part in
    subst (λ pass. PassesAs old new (Some pass) c.args.argument (Some part)) (sym c.in-Converted.is)
    (as_converted old new c.args.argument c.in-Converted.target part c.in_ok-part-in-Converted.ensures.converted c.in_ok-part-in-Converted.ensures.role)

pub returns-in-NullFor-clause-passes : goal.returns-in-NullFor-clause-passes
returns-in-NullFor-clause-passes c = as_nothing c.args.walk.now c.args.walk.now c.args.argument c.args.pass c.in-NullFor.is
