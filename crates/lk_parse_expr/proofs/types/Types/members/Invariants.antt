use Rattle.std.proofs.Common.{◌≡◌, ◌-◌}
use Rattle.lk_lex.specs.declared.punct.Punct.TheVariants as p
use Rattle.lk_parse_expr.specs.Readers.{found, sees, repeat_from}
use Rattle.lk_parse_expr.specs.Reading as spec
use Rattle.lk_parse_expr.proofs.types.Types.members.Given as goal

abbrev pub invariant-loop-turn : goal.invariant-loop-turn
invariant-loop-turn g l = spec.members l.self.depth (spec.readers l.self.depth) l.fn.first l.fn.cursor
    ≡ repeat_from (sees p.CloseBrace) (spec.readers l.self.depth).member (l._turn-end - l._turn) (found l.list.items l.room) l.cursor
