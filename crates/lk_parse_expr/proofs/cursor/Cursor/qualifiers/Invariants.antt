use Rattle.std.proofs.Common.{◌≡◌, ◌-◌}
use Rattle.lk_parse_expr.specs.Reading as spec
use Rattle.lk_parse_expr.proofs.cursor.Cursor.qualifiers.Given as goal

abbrev pub invariant-loop-turn : goal.invariant-loop-turn
invariant-loop-turn l = spec.qualifiers l.fn.self ≡ spec.qualifiers_from (l._turn-end - l._turn) l.found.items l.self
