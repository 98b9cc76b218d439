use Rattle.std.proofs.Common.{rules, arith}
use Rattle.std.proofs.lemmas.Grind.{common_steps}
use Rattle.lk_lex.specs.declared.punct.Punct.TheVariants as p
use Rattle.lk_parse_expr.specs.Readers.{found, repeat_from, sees}
use Rattle.lk_parse_unit.specs.Reading.{block_item, block_items, stmt}
use Rattle.lk_parse_expr.proofs.Turns.{one_more, no_more}
use Rattle.lk_parse_unit.proofs.statement.Statements.block_items.Goals as goal

pub returns-then-sees : goal.returns-then-sees
unfolding repeat_from block_items
returns-then-sees g c =
    let e = one_more (λ n. repeat_from (sees p.CloseBrace) (block_item c.args.self.now.depth (stmt c.args.self.now.depth)) n (found c.loop-turn.list.items c.loop-turn.room) c.loop-turn.cursor) _ c.loop-turn._turn c.loop-turn-test.true c.loop-turn.invariant in first_of (search rules, grind (arith, common_steps))

pub returns-in_err-next : goal.returns-in_err-next
unfolding repeat_from block_items
returns-in_err-next g c =
    let e = one_more (λ n. repeat_from (sees p.CloseBrace) (block_item c.args.self.now.depth (stmt c.args.self.now.depth)) n (found c.loop-turn.list.items c.loop-turn.room) c.loop-turn.cursor) _ c.loop-turn._turn c.loop-turn-test.true c.loop-turn.invariant in first_of (search rules, grind (arith, common_steps))

pub loop-turn-preserved : goal.loop-turn-preserved
unfolding repeat_from block_items
loop-turn-preserved g c =
    let e = one_more (λ n. repeat_from (sees p.CloseBrace) (block_item c.args.self.now.depth (stmt c.args.self.now.depth)) n (found c.loop-turn.list.items c.loop-turn.room) c.loop-turn.cursor) _ c.loop-turn._turn c.loop-turn-test.true c.loop-turn.invariant in first_of (search rules, grind (arith, common_steps))

pub returns : goal.returns
unfolding repeat_from block_items
returns g c =
    let e = no_more (λ n. repeat_from (sees p.CloseBrace) (block_item c.args.self.now.depth (stmt c.args.self.now.depth)) n (found c.loop-turn.list.items c.loop-turn.room) c.loop-turn.cursor) _ c.loop-turn._turn c.loop-turn-test.false c.loop-turn.invariant in first_of (search rules, grind (arith, common_steps))
