use Rattle.std.proofs.Common.{sym, subst}
use Rattle.lk_typed.specs.Calls.{call_rule}
use Rattle.lk_typed.specs.ExprRules.{arguments_of}
use Rattle.lk_check_expr.specs.Arguments.{AreArguments}
use Rattle.lk_found.proofs.Argued.{given_typed, given_untyped}
use Rattle.lk_found.proofs.GivenAddresses.{call_gives}
use Rattle.lk_found.proofs.Rules.{plainly}
use Rattle.lk_found.proofs.arguments.call_of.Goals as goal

pub returns-then-given : goal.returns-then-given
returns-then-given c = λ env x ys role function look arguments.
    let table = c.args.types.now in
    given_typed table env c.args.given.now (arguments_of ys) x c.plain.result c.if-given.true arguments.arguments
    (λ xs are. plainly table c.call-verdict.result c.plain.result (call_rule env x xs) c.plain.ensures.verdict c.plain.ensures.address
    (c.call-verdict.ensures env x xs role (record { typing = function; look = look }) (subst (λ list. AreArguments table env list xs) (sym c.as_slice.ensures.value) are)) (call_gives env x xs))

pub returns-else-given : goal.returns-else-given
returns-else-given c = λ env x ys role function look arguments.
    given_untyped c.args.types.now env c.args.given.now (arguments_of ys) x c.silent.result c.if-given.false arguments.arguments (c.silent.ensures c.args.types.now)
