use Rattle.std.proofs.Common.{◌≡◌, ◌-◌}
use Rattle.lk_parse_expr.specs.Words.{is_close_brace}
use Rattle.lk_parse_expr.specs.Readers.{found, separated_from}
use Rattle.lk_parse_expr.specs.Reading as spec
use Rattle.lk_parse_expr.proofs.types.Types.items.Given as goal

abbrev pub invariant-loop-turn : goal.invariant-loop-turn
invariant-loop-turn g l = spec.items l.self.depth (spec.readers l.self.depth) l.fn.cursor
    ≡ separated_from is_close_brace (spec.readers l.self.depth).item (l._turn-end - l._turn) (found l.list.items l.room) l.cursor
