use Rattle.std.proofs.Common.{◌≡◌, ◌-◌}
use Rattle.lk_parse_expr.specs.Reading as spec
use Rattle.lk_parse_expr.proofs.expression.Expressions.climb.Given as goal

abbrev pub invariant-loop-turn : goal.invariant-loop-turn
invariant-loop-turn g l = spec.climb l.self.depth (spec.readers l.self.depth) l.fn.least l.fn.spot l.fn.before l.fn.cursor
    ≡ spec.climb_from l.self.depth (spec.readers l.self.depth) l.least l.spot (l._turn-end - l._turn) l.before l.cursor
