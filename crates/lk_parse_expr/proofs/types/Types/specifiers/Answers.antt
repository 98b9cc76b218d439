use Rattle.std.proofs.Common.{rules, arith}
use Rattle.std.proofs.lemmas.Grind.{common_steps}
use Rattle.lk_parse_expr.specs.Readers.{found}
use Rattle.lk_parse_expr.specs.Reading.{readers, specifiers_from}
use Rattle.lk_parse_expr.proofs.Turns.{one_more, no_more}
use Rattle.lk_parse_expr.proofs.types.Types.specifiers.Goals as goal

pub returns-then-not-continues_specifiers-2 : goal.returns-then-not-continues_specifiers-2
unfolding specifiers_from
returns-then-not-continues_specifiers-2 g c =
    let e = one_more (λ n. specifiers_from c.args.self.now.depth (readers c.args.self.now.depth) n c.loop-turn.typed (found (c.loop-turn.list.items, c.loop-turn.typedef) c.loop-turn.room) c.loop-turn.cursor) _ c.loop-turn._turn c.loop-turn-test.true c.loop-turn.invariant in first_of (search rules, grind (arith, common_steps))

pub returns-in_err-one : goal.returns-in_err-one
unfolding specifiers_from
returns-in_err-one g c =
    let e = one_more (λ n. specifiers_from c.args.self.now.depth (readers c.args.self.now.depth) n c.loop-turn.typed (found (c.loop-turn.list.items, c.loop-turn.typedef) c.loop-turn.room) c.loop-turn.cursor) _ c.loop-turn._turn c.loop-turn-test.true c.loop-turn.invariant in first_of (search rules, grind (arith, common_steps))

pub loop-turn-preserved : goal.loop-turn-preserved
unfolding specifiers_from
loop-turn-preserved g c =
    let e = one_more (λ n. specifiers_from c.args.self.now.depth (readers c.args.self.now.depth) n c.loop-turn.typed (found (c.loop-turn.list.items, c.loop-turn.typedef) c.loop-turn.room) c.loop-turn.cursor) _ c.loop-turn._turn c.loop-turn-test.true c.loop-turn.invariant in first_of (search rules, grind (arith, common_steps))

pub returns : goal.returns
unfolding specifiers_from
returns g c =
    let e = no_more (λ n. specifiers_from c.args.self.now.depth (readers c.args.self.now.depth) n c.loop-turn.typed (found (c.loop-turn.list.items, c.loop-turn.typedef) c.loop-turn.room) c.loop-turn.cursor) _ c.loop-turn._turn c.loop-turn-test.false c.loop-turn.invariant in first_of (search rules, grind (arith, common_steps))
