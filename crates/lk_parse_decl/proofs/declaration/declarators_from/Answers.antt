use Rattle.std.proofs.Common.{rules, arith, false}
use Rattle.std.proofs.lemmas.Grind.{common_steps}
use Rattle.lk_parse_expr.specs.Readers.{found, separated_from, goes_on}
use Rattle.lk_parse_decl.specs.Reading.{init_declarator}
use Rattle.lk_parse_expr.proofs.Turns.{one_more, no_more}
use Rattle.lk_parse_decl.proofs.declaration.declarators_from.Goals as goal

pub returns-in_err-next : goal.returns-in_err-next
unfolding separated_from goes_on
returns-in_err-next c =
    let e = one_more (λ n. separated_from (λ _. false) (init_declarator c.args.depth c.args.typedef) n (found c.loop-turn.list c.loop-turn.room) c.loop-turn.cursor) _ c.loop-turn._turn c.loop-turn-test.true c.loop-turn.invariant in first_of (search rules, grind (arith, common_steps))

pub returns-then-not-sees : goal.returns-then-not-sees
unfolding separated_from goes_on
returns-then-not-sees c =
    let e = one_more (λ n. separated_from (λ _. false) (init_declarator c.args.depth c.args.typedef) n (found c.loop-turn.list c.loop-turn.room) c.loop-turn.cursor) _ c.loop-turn._turn c.loop-turn-test.true c.loop-turn.invariant in first_of (search rules, grind (arith, common_steps))

pub loop-turn-preserved : goal.loop-turn-preserved
unfolding separated_from goes_on
loop-turn-preserved c =
    let e = one_more (λ n. separated_from (λ _. false) (init_declarator c.args.depth c.args.typedef) n (found c.loop-turn.list c.loop-turn.room) c.loop-turn.cursor) _ c.loop-turn._turn c.loop-turn-test.true c.loop-turn.invariant in first_of (search rules, grind (arith, common_steps))

pub returns : goal.returns
unfolding separated_from goes_on
returns c =
    let e = no_more (λ n. separated_from (λ _. false) (init_declarator c.args.depth c.args.typedef) n (found c.loop-turn.list c.loop-turn.room) c.loop-turn.cursor) _ c.loop-turn._turn c.loop-turn-test.false c.loop-turn.invariant in first_of (search rules, grind (arith, common_steps))
