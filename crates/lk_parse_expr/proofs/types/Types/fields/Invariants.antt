use Rattle.std.proofs.Common.{false, ◌≡◌, ◌-◌}
use Rattle.lk_parse_expr.specs.Readers.{found, separated_from}
use Rattle.lk_parse_expr.specs.Reading as spec
use Rattle.lk_parse_expr.proofs.types.Types.fields.Given as goal

abbrev pub invariant-loop-turn : goal.invariant-loop-turn
invariant-loop-turn g l = spec.field_list l.self.depth (spec.readers l.self.depth) l.fn.cursor
    ≡ separated_from (λ _. false) (spec.field l.self.depth (spec.readers l.self.depth)) (l._turn-end - l._turn) (found l.list.items l.room) l.cursor
