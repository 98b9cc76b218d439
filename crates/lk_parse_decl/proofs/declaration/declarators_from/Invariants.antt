use Rattle.std.proofs.Common.{◌≡◌, ◌-◌, false}
use Rattle.lk_parse_expr.specs.Readers.{found, separated_from}
use Rattle.lk_parse_decl.specs.Reading as spec
use Rattle.lk_parse_decl.proofs.declaration.declarators_from.Given as goal

abbrev pub invariant-loop-turn : goal.invariant-loop-turn
invariant-loop-turn l = separated_from (λ _. false) (spec.init_declarator l.depth l.typedef) l.fn.turns l.fn.before l.fn.cursor
    ≡ separated_from (λ _. false) (spec.init_declarator l.depth l.typedef) (l.turns - l._turn) (found l.list l.room) l.cursor
