use Rattle.std.proofs.Common.{◌∙◌, sym}
use Rattle.lk_check_expr.proofs.Arguments.{format_first}
use Rattle.lk_check_expr.proofs.calls.format_code.Goals as goal

pub returns-in-Some : goal.returns-in-Some
returns-in-Some c = λ table env xs are.
    let arguments = c.args.arguments.now in
    let got = sym c.argument_at.ensures ∙ c.in-Some.is in
    c.code_if.ensures ∙ format_first table env env.role arguments xs c.in-Some.format are got
