use Rattle.std.proofs.Common.{rules, arith}
use Rattle.std.proofs.lemmas.Grind.{common_steps}
use Rattle.lk_parse_expr.specs.Words.{is_close_brace}
use Rattle.lk_parse_expr.specs.Readers.{found, separated_from}
use Rattle.lk_parse_expr.specs.Reading.{readers}
use Rattle.lk_parse_expr.proofs.Turns.{one_more, no_more}
use Rattle.lk_parse_expr.proofs.types.Types.items.Goals as goal

pub returns-in_err-next : goal.returns-in_err-next
unfolding separated_from
returns-in_err-next g c =
    let e = one_more (λ n. separated_from is_close_brace (readers c.args.self.now.depth).item n (found c.loop-turn.list.items c.loop-turn.room) c.loop-turn.cursor) _ c.loop-turn._turn c.loop-turn-test.true c.loop-turn.invariant in first_of (search rules, grind (arith, common_steps))

pub returns-then-not-goes_on_in_braces : goal.returns-then-not-goes_on_in_braces
unfolding separated_from
returns-then-not-goes_on_in_braces g c =
    let e = one_more (λ n. separated_from is_close_brace (readers c.args.self.now.depth).item n (found c.loop-turn.list.items c.loop-turn.room) c.loop-turn.cursor) _ c.loop-turn._turn c.loop-turn-test.true c.loop-turn.invariant in first_of (search rules, grind (arith, common_steps))

pub loop-turn-preserved : goal.loop-turn-preserved
unfolding separated_from
loop-turn-preserved g c =
    let e = one_more (λ n. separated_from is_close_brace (readers c.args.self.now.depth).item n (found c.loop-turn.list.items c.loop-turn.room) c.loop-turn.cursor) _ c.loop-turn._turn c.loop-turn-test.true c.loop-turn.invariant in first_of (search rules, grind (arith, common_steps))

pub returns : goal.returns
unfolding separated_from
returns g c =
    let e = no_more (λ n. separated_from is_close_brace (readers c.args.self.now.depth).item n (found c.loop-turn.list.items c.loop-turn.room) c.loop-turn.cursor) _ c.loop-turn._turn c.loop-turn-test.false c.loop-turn.invariant in first_of (search rules, grind (arith, common_steps))
