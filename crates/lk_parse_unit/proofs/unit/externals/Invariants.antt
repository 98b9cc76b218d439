use Rattle.std.proofs.Common.{◌≡◌, ◌-◌}
use Rattle.lk_parse_expr.specs.Input.{peek}
use Rattle.lk_parse_expr.specs.Readers.{found, repeat_from}
use Rattle.lk_lex.specs.TokenList.{is_end}
use Rattle.lk_parse_unit.specs.Reading as spec
use Rattle.lk_parse_unit.proofs.unit.externals.Given as goal

abbrev pub invariant-loop-turn : goal.invariant-loop-turn
invariant-loop-turn l = spec.externals l.depth l.fn.cursor
    ≡ repeat_from (λ i. is_end (peek i)) (spec.external l.depth) (l._turn-end - l._turn) (found l.list.items l.room) l.cursor
