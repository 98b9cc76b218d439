use Rattle.std.proofs.Common.{rules, arith}
use Rattle.std.proofs.lemmas.Grind.{common_steps}
use Rattle.lk_parse_expr.specs.Reading.{suffixes, suffixes_from, readers}
use Rattle.lk_parse_expr.proofs.Turns.{one_more, no_more}
use Rattle.lk_parse_expr.proofs.expression.Expressions.suffixes.Goals as goal

pub loop-turn-init : goal.loop-turn-init
unfolding suffixes
loop-turn-init g c = first_of (search rules, grind (arith, common_steps))

pub returns-in_default : goal.returns-in_default
unfolding suffixes_from
returns-in_default g c =
    let e = one_more (λ n. suffixes_from c.args.self.now.depth (readers c.args.self.now.depth) c.args.spot n c.loop-turn.operand c.loop-turn.cursor) _ c.loop-turn._turn c.loop-turn-test.true c.loop-turn.invariant in first_of (search rules, grind (arith, common_steps))

pub returns-in_err-inner : goal.returns-in_err-inner
unfolding suffixes_from
returns-in_err-inner g c =
    let e = one_more (λ n. suffixes_from c.args.self.now.depth (readers c.args.self.now.depth) c.args.spot n c.loop-turn.operand c.loop-turn.cursor) _ c.loop-turn._turn c.loop-turn-test.true c.loop-turn.invariant in first_of (search rules, grind (arith, common_steps))

pub returns-in_err-operand : goal.returns-in_err-operand
unfolding suffixes_from
returns-in_err-operand g c =
    let e = one_more (λ n. suffixes_from c.args.self.now.depth (readers c.args.self.now.depth) c.args.spot n c.loop-turn.operand c.loop-turn.cursor) _ c.loop-turn._turn c.loop-turn-test.true c.loop-turn.invariant in first_of (search rules, grind (arith, common_steps))

pub loop-turn-preserved : goal.loop-turn-preserved
unfolding suffixes_from
loop-turn-preserved g c =
    let e = one_more (λ n. suffixes_from c.args.self.now.depth (readers c.args.self.now.depth) c.args.spot n c.loop-turn.operand c.loop-turn.cursor) _ c.loop-turn._turn c.loop-turn-test.true c.loop-turn.invariant in first_of (search rules, grind (arith, common_steps))

pub returns : goal.returns
unfolding suffixes_from
returns g c =
    let e = no_more (λ n. suffixes_from c.args.self.now.depth (readers c.args.self.now.depth) c.args.spot n c.loop-turn.operand c.loop-turn.cursor) _ c.loop-turn._turn c.loop-turn-test.false c.loop-turn.invariant in first_of (search rules, grind (arith, common_steps))
