use Rattle.std.proofs.Common.{Some, sym, subst}
use Rattle.std.proofs.lemmas.Result.{IfOk-weaker}
use Rattle.lk_elab_expr.specs.PassedArguments.{PassesAs}
use Rattle.lk_elab_expr.proofs.Passing.{as_further}
use Rattle.lk_elab_expr.proofs.arguments.passed_as.Goals as goal

pub returns-in-Some-clause-passes : goal.returns-in-Some-clause-passes
returns-in-Some-clause-passes c =
    IfOk-weaker c.passed_to.result _ _ (λ part passes. subst (λ pass. PassesAs c.args.walk.now c.passed_to.new.walk pass c.args.argument part) (sym c.in-Some.is) passes) c.passed_to.ensures.passes

pub returns-in_ok-part-in-None-clause-passes : goal.returns-in_ok-part-in-None-clause-passes
returns-in_ok-part-in-None-clause-passes c =
    let old = c.args.walk.now in
    let new = c.further.new.walk in
    let part = c.in_ok-part-in-None.part in
    subst (λ pass. PassesAs old new pass c.args.argument (Some part)) (sym c.in-None.is) (as_further old new c.args.argument part c.in_ok-part-in-None.ensures.promoted c.in_ok-part-in-None.ensures.role)
