use Rattle.std.proofs.Common.{◌≡◌, ◌-◌}
use Rattle.lk_parse_expr.specs.Reading as spec
use Rattle.lk_parse_expr.proofs.expression.Expressions.suffixes.Given as goal

abbrev pub invariant-loop-turn : goal.invariant-loop-turn
invariant-loop-turn g l = spec.suffixes l.self.depth (spec.readers l.self.depth) l.fn.spot l.fn.operand l.fn.cursor
    ≡ spec.suffixes_from l.self.depth (spec.readers l.self.depth) l.spot (l._turn-end - l._turn) l.operand l.cursor
