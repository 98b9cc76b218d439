use Rattle.std.proofs.Common.{◌≡◌, ◌-◌}
use Rattle.lk_parse_expr.specs.Reading as reading
use Rattle.lk_parse_expr.proofs.cursor.Cursor.texts.Given as goal

abbrev pub invariant-loop-turn : goal.invariant-loop-turn
invariant-loop-turn l = reading.texts l.fn.self ≡ reading.texts_from (l._turn-end - l._turn) l.bytes.items l.self
