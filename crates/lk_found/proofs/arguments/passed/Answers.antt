use Rattle.lk_found.proofs.Argued.{none_passed, some_passed}
use Rattle.lk_found.proofs.arguments.passed.Goals as goal

pub returns-in-Some-clause-passed : goal.returns-in-Some-clause-passed
returns-in-Some-clause-passed c = λ env x found.
    some_passed c.args.types.now c.args.f.now c.in-Some.typing x c.args.index c.passing.result c.in-Some.is found.typing
    (λ u is. c.passing.ensures.passed env (record { typing = u; look = x.look }) (record { typing = is; look = found.look }))

pub returns-in-None-clause-passed : goal.returns-in-None-clause-passed
returns-in-None-clause-passed c = λ env x found. none_passed c.args.types.now c.args.f.now x c.args.index c.in-None.is found.typing
