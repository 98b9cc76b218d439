use Rattle.std.proofs.Common.{◌≡◌, ◌-◌}
use Rattle.lk_parse_expr.specs.Readers.{found}
use Rattle.lk_parse_expr.specs.Reading as spec
use Rattle.lk_parse_expr.proofs.types.Types.specifiers.Given as goal

abbrev pub invariant-loop-turn : goal.invariant-loop-turn
invariant-loop-turn g l = spec.specifiers l.self.depth (spec.readers l.self.depth) l.fn.cursor
    ≡ spec.specifiers_from l.self.depth (spec.readers l.self.depth) (l._turn-end - l._turn) l.typed (found (l.list.items, l.typedef) l.room) l.cursor
