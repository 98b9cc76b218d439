use Rattle.std.proofs.Common.{rules, arith}
use Rattle.std.proofs.lemmas.Grind.{common_steps}
use Rattle.lk_parse_expr.specs.Reading.{texts, texts_from}
use Rattle.lk_parse_expr.proofs.Turns.{one_more, no_more}
use Rattle.lk_parse_expr.proofs.cursor.Cursor.texts.Goals as goal

pub loop-turn-init : goal.loop-turn-init
unfolding texts
loop-turn-init c = first_of (search rules, grind (arith, common_steps))

pub returns-then-ne : goal.returns-then-ne
unfolding texts_from
returns-then-ne c =
    let e = one_more (λ n. texts_from n c.loop-turn.bytes.items c.loop-turn.self) _ c.loop-turn._turn c.loop-turn-test.true c.loop-turn.invariant in first_of (search rules, grind (arith, common_steps))

pub returns-in_err-push_value : goal.returns-in_err-push_value
unfolding texts_from
returns-in_err-push_value c =
    let e = one_more (λ n. texts_from n c.loop-turn.bytes.items c.loop-turn.self) _ c.loop-turn._turn c.loop-turn-test.true c.loop-turn.invariant in first_of (search rules, grind (arith, common_steps))

pub loop-turn-preserved : goal.loop-turn-preserved
unfolding texts_from
loop-turn-preserved c =
    let e = one_more (λ n. texts_from n c.loop-turn.bytes.items c.loop-turn.self) _ c.loop-turn._turn c.loop-turn-test.true c.loop-turn.invariant in first_of (search rules, grind (arith, common_steps))

pub returns : goal.returns
unfolding texts_from
returns c =
    let e = no_more (λ n. texts_from n c.loop-turn.bytes.items c.loop-turn.self) _ c.loop-turn._turn c.loop-turn-test.false c.loop-turn.invariant in first_of (search rules, grind (arith, common_steps))
