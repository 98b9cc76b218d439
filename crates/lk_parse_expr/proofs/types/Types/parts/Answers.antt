use Rattle.std.proofs.Common.{rules, arith, ◌∙◌}
use Rattle.std.proofs.lemmas.Grind.{common_steps}
use Rattle.lk_parse_expr.specs.Reading.{readers, grown_from}
use Rattle.lk_parse_expr.proofs.Turns.{one_more, no_more}
use Rattle.lk_parse_expr.proofs.Growing.{grown_once}
use Rattle.lk_parse_expr.proofs.types.Types.parts.Goals as goal

pub returns-in_err-before : goal.returns-in_err-before
returns-in_err-before g c =
    let e = one_more (λ n. grown_from c.args.self.now.depth (readers c.args.self.now.depth) c.args.spot n c.loop-turn.before c.loop-turn.cursor) _ c.loop-turn._turn c.loop-turn-test.true c.loop-turn.invariant
    ∙ grown_once c.args.self.now.depth (readers c.args.self.now.depth) c.args.spot c.loop-turn.before _ c.loop-turn.cursor in first_of (search rules, grind (arith, common_steps))

pub returns-in_err-before-2 : goal.returns-in_err-before-2
returns-in_err-before-2 g c =
    let e = one_more (λ n. grown_from c.args.self.now.depth (readers c.args.self.now.depth) c.args.spot n c.loop-turn.before c.loop-turn.cursor) _ c.loop-turn._turn c.loop-turn-test.true c.loop-turn.invariant
    ∙ grown_once c.args.self.now.depth (readers c.args.self.now.depth) c.args.spot c.loop-turn.before _ c.loop-turn.cursor in first_of (search rules, grind (arith, common_steps))

pub returns-else-sees-2 : goal.returns-else-sees-2
returns-else-sees-2 g c =
    let e = one_more (λ n. grown_from c.args.self.now.depth (readers c.args.self.now.depth) c.args.spot n c.loop-turn.before c.loop-turn.cursor) _ c.loop-turn._turn c.loop-turn-test.true c.loop-turn.invariant
    ∙ grown_once c.args.self.now.depth (readers c.args.self.now.depth) c.args.spot c.loop-turn.before _ c.loop-turn.cursor in first_of (search rules, grind (arith, common_steps))

pub loop-turn-preserved : goal.loop-turn-preserved
loop-turn-preserved g c =
    let e = one_more (λ n. grown_from c.args.self.now.depth (readers c.args.self.now.depth) c.args.spot n c.loop-turn.before c.loop-turn.cursor) _ c.loop-turn._turn c.loop-turn-test.true c.loop-turn.invariant
    ∙ grown_once c.args.self.now.depth (readers c.args.self.now.depth) c.args.spot c.loop-turn.before _ c.loop-turn.cursor in first_of (search rules, grind (arith, common_steps))

pub returns : goal.returns
unfolding grown_from
returns g c =
    let e = no_more (λ n. grown_from c.args.self.now.depth (readers c.args.self.now.depth) c.args.spot n c.loop-turn.before c.loop-turn.cursor) _ c.loop-turn._turn c.loop-turn-test.false c.loop-turn.invariant in first_of (search rules, grind (arith, common_steps))
