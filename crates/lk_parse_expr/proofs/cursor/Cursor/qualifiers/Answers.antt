use Rattle.std.proofs.Common.{rules, arith}
use Rattle.std.proofs.lemmas.Grind.{common_steps}
use Rattle.lk_parse_expr.specs.Reading.{qualifiers_from}
use Rattle.lk_parse_expr.proofs.Turns.{one_more, no_more}
use Rattle.lk_parse_expr.proofs.cursor.Cursor.qualifiers.Goals as goal

pub returns-in_default : goal.returns-in_default
unfolding qualifiers_from
returns-in_default c =
    let e = one_more (λ n. qualifiers_from n c.loop-turn.found.items c.loop-turn.self) _ c.loop-turn._turn c.loop-turn-test.true c.loop-turn.invariant in first_of (search rules, grind (arith, common_steps))

pub loop-turn-preserved : goal.loop-turn-preserved
unfolding qualifiers_from
loop-turn-preserved c =
    let e = one_more (λ n. qualifiers_from n c.loop-turn.found.items c.loop-turn.self) _ c.loop-turn._turn c.loop-turn-test.true c.loop-turn.invariant in first_of (search rules, grind (arith, common_steps))

pub returns : goal.returns
unfolding qualifiers_from
returns c =
    let e = no_more (λ n. qualifiers_from n c.loop-turn.found.items c.loop-turn.self) _ c.loop-turn._turn c.loop-turn-test.false c.loop-turn.invariant in first_of (search rules, grind (arith, common_steps))
