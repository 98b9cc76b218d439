use Rattle.std.proofs.Common.{◌≡◌, ◌-◌}
use Rattle.lk_parse_expr.specs.Readers.{found, separated_from}
use Rattle.lk_parse_expr.specs.Reading as spec
use Rattle.lk_parse_expr.proofs.types.Types.parameter_list.Given as goal

abbrev pub invariant-loop-turn : goal.invariant-loop-turn
invariant-loop-turn g l = spec.parameter_list l.self.depth (spec.readers l.self.depth) l.fn.cursor
    ≡ separated_from spec.is_ellipsis (spec.parameter l.self.depth (spec.readers l.self.depth)) (l._turn-end - l._turn) (found l.list.items l.room) l.cursor
