use Rattle.lk_typed.specs.Calls.{call_rule}
use Rattle.lk_typed.specs.ExprRules.{arguments_of, with_arguments}
use Rattle.lk_found.proofs.Rules.{none_one, one_some}
use Rattle.lk_found.proofs.arguments.call_ruled.Goals as goal

pub returns-in-Some : goal.returns-in-Some
returns-in-Some c = λ env x ys role function arguments.
    one_some c.args.types.now c.args.f.now c.in-Some.typing x.typing c.call_of.result (λ t. with_arguments (arguments_of ys) (call_rule env (record { typing = t; look = x.look }))) c.in-Some.is
    function.typing (λ u p. c.call_of.ensures env (record { typing = u; look = x.look }) ys role p.typing function.look arguments)

pub returns-in-None : goal.returns-in-None
returns-in-None c = λ env x ys role function arguments.
    none_one c.args.types.now c.args.f.now x.typing c.silent.result (λ t. with_arguments (arguments_of ys) (call_rule env (record { typing = t; look = x.look }))) c.silent.ensures c.in-None.is
    function.typing
