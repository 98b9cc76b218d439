use Rattle.std.proofs.Common.{subst}
use Rattle.std.specs.Prelude.{slice_get}
use Rattle.lk_typed.specs.Calls as spec
use Rattle.lk_typed.specs.Calls.{library_called, passes_by, signature_of}
use Rattle.lk_typed.specs.Env.{Env}
use Rattle.lk_typed.specs.Expressions.{expression}
use Rattle.lk_check_expr.specs.Arguments.{IsArgument, IsPassedAt}
use Rattle.lk_check_expr.specs.declared.calls.Argument.{Argument}
use Rattle.lk_elab_expr.proofs.arguments.passing_at.Goals as goal

pub returns : goal.returns
returns c = λ f same true_of.
    let has = c.in_ok-typing.ensures.typing f same true_of in
    let found = c.in_ok-found.ensures.found f same true_of in
    let argument : Argument = record { typing = c.in_ok-typing.typing; look = c.in_ok-found.found.look } in
    let x : spec.Argument = record { typing = has.typing; look = (expression f.1 f.0).look } in
    let passed = subst (λ table. (env : Env) (x : spec.Argument) → IsArgument table env argument x →
    IsPassedAt table c.passing.result (slice_get (passes_by (library_called x.look.word) (signature_of x.typing)) c.args.index)) c.table.ensures.value c.passing.ensures.passed in
    record { typing = has.typing; found = has.found; is = passed f.0 x (record { typing = has.is; look = found.look }) }
