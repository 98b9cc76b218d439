use Rattle.std.proofs.Common.{rules, arith}
use Rattle.std.proofs.lemmas.Grind.{common_steps}
use Rattle.lk_lex.specs.declared.punct.Punct.TheVariants as p
use Rattle.lk_parse_expr.specs.Readers.{found, sees, repeat_from}
use Rattle.lk_parse_expr.specs.Reading.{readers}
use Rattle.lk_parse_expr.proofs.Turns.{one_more, no_more}
use Rattle.lk_parse_expr.proofs.types.Types.members.Goals as goal

pub returns-then-sees : goal.returns-then-sees
unfolding repeat_from
returns-then-sees g c =
    let e = one_more (λ n. repeat_from (sees p.CloseBrace) (readers c.args.self.now.depth).member n (found c.loop-turn.list.items c.loop-turn.room) c.loop-turn.cursor) _ c.loop-turn._turn c.loop-turn-test.true c.loop-turn.invariant in first_of (search rules, grind (arith, common_steps))

pub returns-in_err-next : goal.returns-in_err-next
unfolding repeat_from
returns-in_err-next g c =
    let e = one_more (λ n. repeat_from (sees p.CloseBrace) (readers c.args.self.now.depth).member n (found c.loop-turn.list.items c.loop-turn.room) c.loop-turn.cursor) _ c.loop-turn._turn c.loop-turn-test.true c.loop-turn.invariant in first_of (search rules, grind (arith, common_steps))

pub loop-turn-preserved : goal.loop-turn-preserved
unfolding repeat_from
loop-turn-preserved g c =
    let e = one_more (λ n. repeat_from (sees p.CloseBrace) (readers c.args.self.now.depth).member n (found c.loop-turn.list.items c.loop-turn.room) c.loop-turn.cursor) _ c.loop-turn._turn c.loop-turn-test.true c.loop-turn.invariant in first_of (search rules, grind (arith, common_steps))

pub returns : goal.returns
unfolding repeat_from
returns g c =
    let e = no_more (λ n. repeat_from (sees p.CloseBrace) (readers c.args.self.now.depth).member n (found c.loop-turn.list.items c.loop-turn.room) c.loop-turn.cursor) _ c.loop-turn._turn c.loop-turn-test.false c.loop-turn.invariant in first_of (search rules, grind (arith, common_steps))
