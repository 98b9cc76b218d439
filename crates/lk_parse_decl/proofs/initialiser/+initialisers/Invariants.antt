use Rattle.std.proofs.Common.{◌≡◌, ◌-◌, ◌+◌, ◌*◌}
use Rattle.lk_parse_expr.specs.Words.{is_close_brace}
use Rattle.lk_parse_expr.specs.Readers.{found, separated_from}
use Rattle.lk_parse_decl.specs.Reading as spec
use Rattle.lk_parse_decl.proofs.initialiser.+initialisers.Given as goal

abbrev pub decreases-read_initialiser : goal.decreases-read_initialiser
decreases-read_initialiser l = 4 * l.depth

abbrev pub decreases-braced : goal.decreases-braced
decreases-braced l = 4 * l.depth + 3

abbrev pub decreases-entries : goal.decreases-entries
decreases-entries l = 4 * l.depth + 2

abbrev pub decreases-entry : goal.decreases-entry
decreases-entry l = 4 * l.depth + 1

abbrev pub invariant-entries-loop-turn : goal.invariant-entries-loop-turn
invariant-entries-loop-turn l = spec.entries l.depth (spec.initialiser l.depth) l.fn.cursor
    ≡ separated_from is_close_brace (spec.entry l.depth (spec.initialiser l.depth)) (l._turn-end - l._turn) (found l.list.items l.room) l.cursor
