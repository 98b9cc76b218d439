use Rattle.std.proofs.Common.{◌∙◌, sym, ap}
use Rattle.std.specs.Prelude.{not}
use Rattle.lk_base.specs.declared.code.Code.TheVariants.{AllocShape}
use Rattle.lk_typed.specs.Codes.{least_code}
use Rattle.lk_typed.specs.Typing.{if_so}
use Rattle.lk_check_expr.proofs.Arguments.{size_first}
use Rattle.lk_check_expr.proofs.calls.size_code.Goals as goal

pub returns-in-Some : goal.returns-in-Some
returns-in-Some c = λ table env xs by are.
    let arguments = c.args.arguments.now in
    let got = sym c.argument_at.ensures ∙ c.in-Some.is in
    c.code_if.ensures ∙ ap (λ is. least_code (if_so (not is) AllocShape)) c.is_size-taken.ensures ∙ size_first table env env.role c.args.counts_bytes by arguments xs c.in-Some.size are got
