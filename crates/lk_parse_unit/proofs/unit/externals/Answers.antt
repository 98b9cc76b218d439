use Rattle.std.proofs.Common.{rules, arith}
use Rattle.std.proofs.lemmas.Grind.{common_steps}
use Rattle.lk_parse_expr.specs.Input.{peek}
use Rattle.lk_parse_expr.specs.Readers.{found, repeat_from}
use Rattle.lk_lex.specs.TokenList.{is_end}
use Rattle.lk_parse_unit.specs.Reading.{external}
use Rattle.lk_parse_expr.proofs.Turns.{one_more, no_more}
use Rattle.lk_parse_unit.proofs.unit.externals.Goals as goal

pub returns-then-is_end : goal.returns-then-is_end
unfolding repeat_from
returns-then-is_end c =
    let e = one_more (λ n. repeat_from (λ i. is_end (peek i)) (external c.args.depth) n (found c.loop-turn.list.items c.loop-turn.room) c.loop-turn.cursor) _ c.loop-turn._turn c.loop-turn-test.true c.loop-turn.invariant in first_of (search rules, grind (arith, common_steps))

pub returns-in_err-next : goal.returns-in_err-next
unfolding repeat_from
returns-in_err-next c =
    let e = one_more (λ n. repeat_from (λ i. is_end (peek i)) (external c.args.depth) n (found c.loop-turn.list.items c.loop-turn.room) c.loop-turn.cursor) _ c.loop-turn._turn c.loop-turn-test.true c.loop-turn.invariant in first_of (search rules, grind (arith, common_steps))

pub loop-turn-preserved : goal.loop-turn-preserved
unfolding repeat_from
loop-turn-preserved c =
    let e = one_more (λ n. repeat_from (λ i. is_end (peek i)) (external c.args.depth) n (found c.loop-turn.list.items c.loop-turn.room) c.loop-turn.cursor) _ c.loop-turn._turn c.loop-turn-test.true c.loop-turn.invariant in first_of (search rules, grind (arith, common_steps))

pub returns : goal.returns
unfolding repeat_from
returns c =
    let e = no_more (λ n. repeat_from (λ i. is_end (peek i)) (external c.args.depth) n (found c.loop-turn.list.items c.loop-turn.room) c.loop-turn.cursor) _ c.loop-turn._turn c.loop-turn-test.false c.loop-turn.invariant in first_of (search rules, grind (arith, common_steps))
