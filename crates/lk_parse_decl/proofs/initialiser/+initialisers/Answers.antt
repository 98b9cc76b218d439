use Rattle.std.proofs.Common.{rules, arith}
use Rattle.std.proofs.lemmas.Grind.{common_steps}
use Rattle.lk_parse_expr.specs.Words.{is_close_brace}
use Rattle.lk_parse_expr.specs.Readers.{found, separated_from}
use Rattle.lk_parse_decl.specs.Reading.{entry, initialiser}
use Rattle.lk_parse_expr.proofs.Turns.{one_more, no_more}
use Rattle.lk_parse_decl.proofs.Levels.{init_braced, init_value, no_initialiser}
use Rattle.lk_parse_decl.proofs.initialiser.+initialisers.Goals as goal

pub entries-returns-in_err-next : goal.entries-returns-in_err-next
unfolding separated_from
entries-returns-in_err-next t c =
    let e = one_more (λ n. separated_from is_close_brace (entry c.args.depth (initialiser c.args.depth)) n (found c.loop-turn.list.items c.loop-turn.room) c.loop-turn.cursor) _ c.loop-turn._turn c.loop-turn-test.true c.loop-turn.invariant in first_of (search rules, grind (arith, common_steps))

pub entries-returns-then-not-goes_on_in_braces : goal.entries-returns-then-not-goes_on_in_braces
unfolding separated_from
entries-returns-then-not-goes_on_in_braces t c =
    let e = one_more (λ n. separated_from is_close_brace (entry c.args.depth (initialiser c.args.depth)) n (found c.loop-turn.list.items c.loop-turn.room) c.loop-turn.cursor) _ c.loop-turn._turn c.loop-turn-test.true c.loop-turn.invariant in first_of (search rules, grind (arith, common_steps))

pub entries-loop-turn-preserved : goal.entries-loop-turn-preserved
unfolding separated_from
entries-loop-turn-preserved t c =
    let e = one_more (λ n. separated_from is_close_brace (entry c.args.depth (initialiser c.args.depth)) n (found c.loop-turn.list.items c.loop-turn.room) c.loop-turn.cursor) _ c.loop-turn._turn c.loop-turn-test.true c.loop-turn.invariant in first_of (search rules, grind (arith, common_steps))

pub entries-returns : goal.entries-returns
unfolding separated_from
entries-returns t c =
    let e = no_more (λ n. separated_from is_close_brace (entry c.args.depth (initialiser c.args.depth)) n (found c.loop-turn.list.items c.loop-turn.room) c.loop-turn.cursor) _ c.loop-turn._turn c.loop-turn-test.false c.loop-turn.invariant in first_of (search rules, grind (arith, common_steps))

pub read_initialiser-returns-then-depth-eq0 : goal.read_initialiser-returns-then-depth-eq0
read_initialiser-returns-then-depth-eq0 t c = λ never. no_initialiser c.args.depth c.args.cursor.now _ _ (omega arith) (c.exhausted.ensures never) c.begins_initialiser.ensures

pub read_initialiser-returns-then-sees : goal.read_initialiser-returns-then-sees
read_initialiser-returns-then-sees t c = rw (init_braced c.args.depth c.args.cursor.now (omega arith) (search rules)) (search rules)

pub read_initialiser-returns-in_err-value : goal.read_initialiser-returns-in_err-value
read_initialiser-returns-in_err-value t c = rw (init_value c.args.depth c.args.cursor.now (omega arith) (search rules)) (search rules)

pub read_initialiser-returns : goal.read_initialiser-returns
read_initialiser-returns t c = rw (init_value c.args.depth c.args.cursor.now (omega arith) (search rules)) (search rules)
