use Rattle.std.proofs.Common.{sym, subst}
use Rattle.std.specs.List.{slice_get}
use Rattle.std.proofs.lemmas.Result.{IfOk-weaker}
use Rattle.lk_typed.specs.Expressions.{expression}
use Rattle.lk_typed.specs.Forms.{passes_of}
use Rattle.lk_check_expr.specs.Arguments.{IsPassedAt}
use Rattle.lk_elab_expr.specs.PassedArguments.{passes_to}
use Rattle.lk_elab_expr.proofs.arguments.argument_part.Goals as goal

pub returns-in-Ok-clause-passes : goal.returns-in-Ok-clause-passes
returns-in-Ok-clause-passes c = IfOk-weaker c.passed_as.result _ _ (λ part by f p same_f same_p true_f true_p stands tables leads folded.
    let i = c.args.index in
    let has = c.in-Ok.ensures f same_f true_f in
    let is = subst (λ o. IsPassedAt c.args.walk.now.types c.in-Ok.pass (slice_get (passes_of (expression f.1 f.0) o) i)) (sym has.found) has.is in
    by (slice_get (passes_to f) i) is p same_p true_p stands tables leads folded) c.passed_as.ensures.passes
