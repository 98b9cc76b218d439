use Rattle.lk_typed.specs.Addresses.{value}
use Rattle.lk_typed.specs.Operators.{choice_rule}
use Rattle.lk_typed.specs.Typings.{ForBoth, IsVerdict}
use Rattle.lk_typed.proofs.Verdicts.{then_both, then_each}
use Rattle.lk_found.proofs.GivenAddresses.{choice_gives}
use Rattle.lk_found.proofs.Rules.{plainly, valued}
use Rattle.lk_found.proofs.ruled.choice_of.Goals as goal

pub returns : goal.returns
returns c = λ z x y condition first second.
    let table = c.args.types.now in
    let u = valued table c.args.c.now z c.value-condition.result c.value-condition.ensures.value condition in
    let v = valued table c.args.a.now x c.value-first.result c.value-first.ensures.value first in
    let w = valued table c.args.b.now y c.value-second.result c.value-second.ensures.value second in
    plainly table c.choice-verdict.result c.plain.result (choice_rule (value z) (value x) (value y)) c.plain.ensures.verdict c.plain.ensures.address
    (then_both table c.value-first.result c.value-second.result (value x) (value y) (λ x y. IsVerdict table c.choice-verdict.result (choice_rule (value z) x y)) v w
    (then_each table c.value-condition.result (value z) (λ z. ForBoth table c.value-first.result c.value-second.result (λ x y. IsVerdict table c.choice-verdict.result (choice_rule z x y))) u
    c.choice-verdict.ensures))
    (choice_gives (value z) (value x) (value y))
