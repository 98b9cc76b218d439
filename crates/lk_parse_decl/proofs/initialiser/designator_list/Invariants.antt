use Rattle.std.proofs.Common.{◌≡◌, ◌-◌, not}
use Rattle.lk_parse_expr.specs.Readers.{found, repeat_from}
use Rattle.lk_parse_decl.specs.Reading as spec
use Rattle.lk_parse_decl.proofs.initialiser.designator_list.Given as goal

abbrev pub invariant-loop-turn : goal.invariant-loop-turn
invariant-loop-turn l = spec.designator_list l.depth (spec.initialiser l.depth) l.fn.cursor
    ≡ repeat_from (λ i. not (spec.begins_designator i)) (spec.designator l.depth (spec.initialiser l.depth)) (l._turn-end - l._turn) (found l.list.items l.room) l.cursor
