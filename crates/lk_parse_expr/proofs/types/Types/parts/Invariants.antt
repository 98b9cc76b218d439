use Rattle.std.proofs.Common.{◌≡◌, ◌-◌}
use Rattle.lk_parse_expr.specs.Reading as spec
use Rattle.lk_parse_expr.proofs.types.Types.parts.Given as goal

abbrev pub invariant-loop-turn : goal.invariant-loop-turn
invariant-loop-turn g l = spec.parts l.self.depth (spec.readers l.self.depth) l.fn.spot l.fn.before l.fn.cursor
    ≡ spec.grown_from l.self.depth (spec.readers l.self.depth) l.spot (l._turn-end - l._turn) l.before l.cursor
