use Rattle.std.proofs.Common.{◌≡◌, ◌-◌}
use Rattle.lk_lex.specs.declared.punct.Punct.TheVariants as p
use Rattle.lk_parse_expr.specs.Readers.{found, repeat_from, sees}
use Rattle.lk_parse_unit.specs.Reading as spec
use Rattle.lk_parse_unit.proofs.statement.Statements.block_items.Given as goal

abbrev pub invariant-loop-turn : goal.invariant-loop-turn
invariant-loop-turn g l = spec.block_items l.self.depth (spec.stmt l.self.depth) l.fn.cursor
    ≡ repeat_from (sees p.CloseBrace) (spec.block_item l.self.depth (spec.stmt l.self.depth)) (l._turn-end - l._turn) (found l.list.items l.room) l.cursor
