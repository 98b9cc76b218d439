use Rattle.std.proofs.Common.{rules, arith}
use Rattle.std.proofs.lemmas.Grind.{common_steps}
use Rattle.lk_parse_expr.specs.Reading.{climb, climb_from, readers}
use Rattle.lk_parse_expr.proofs.Turns.{one_more, no_more}
use Rattle.lk_parse_expr.proofs.expression.Expressions.climb.Goals as goal

pub loop-turn-init : goal.loop-turn-init
unfolding climb
loop-turn-init g c = first_of (search rules, grind (arith, common_steps))

pub returns-in_default : goal.returns-in_default
unfolding climb_from
returns-in_default g c =
    let e = one_more (λ n. climb_from c.args.self.now.depth (readers c.args.self.now.depth) c.args.least c.args.spot n c.loop-turn.before c.loop-turn.cursor) _ c.loop-turn._turn c.loop-turn-test.true c.loop-turn.invariant in first_of (search rules, grind (arith, common_steps))

pub returns-then-infix_level-least : goal.returns-then-infix_level-least
unfolding climb_from
returns-then-infix_level-least g c =
    let e = one_more (λ n. climb_from c.args.self.now.depth (readers c.args.self.now.depth) c.args.least c.args.spot n c.loop-turn.before c.loop-turn.cursor) _ c.loop-turn._turn c.loop-turn-test.true c.loop-turn.invariant in first_of (search rules, grind (arith, common_steps))

pub returns-in_err-left : goal.returns-in_err-left
unfolding climb_from
returns-in_err-left g c =
    let e = one_more (λ n. climb_from c.args.self.now.depth (readers c.args.self.now.depth) c.args.least c.args.spot n c.loop-turn.before c.loop-turn.cursor) _ c.loop-turn._turn c.loop-turn-test.true c.loop-turn.invariant in first_of (search rules, grind (arith, common_steps))

pub returns-in_err-before : goal.returns-in_err-before
unfolding climb_from
returns-in_err-before g c =
    let e = one_more (λ n. climb_from c.args.self.now.depth (readers c.args.self.now.depth) c.args.least c.args.spot n c.loop-turn.before c.loop-turn.cursor) _ c.loop-turn._turn c.loop-turn-test.true c.loop-turn.invariant in first_of (search rules, grind (arith, common_steps))

pub loop-turn-preserved : goal.loop-turn-preserved
unfolding climb_from
loop-turn-preserved g c =
    let e = one_more (λ n. climb_from c.args.self.now.depth (readers c.args.self.now.depth) c.args.least c.args.spot n c.loop-turn.before c.loop-turn.cursor) _ c.loop-turn._turn c.loop-turn-test.true c.loop-turn.invariant in first_of (search rules, grind (arith, common_steps))

pub returns : goal.returns
unfolding climb_from
returns g c =
    let e = no_more (λ n. climb_from c.args.self.now.depth (readers c.args.self.now.depth) c.args.least c.args.spot n c.loop-turn.before c.loop-turn.cursor) _ c.loop-turn._turn c.loop-turn-test.false c.loop-turn.invariant in first_of (search rules, grind (arith, common_steps))
