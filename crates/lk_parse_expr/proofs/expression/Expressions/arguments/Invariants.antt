use Rattle.std.proofs.Common.{◌≡◌, ◌-◌, false}
use Rattle.lk_parse_expr.specs.Readers.{found, separated_from}
use Rattle.lk_parse_expr.specs.Reading as spec
use Rattle.lk_parse_expr.proofs.expression.Expressions.arguments.Given as goal

abbrev pub invariant-loop-turn : goal.invariant-loop-turn
invariant-loop-turn g l = spec.arguments l.self.depth (spec.readers l.self.depth) l.fn.cursor
    ≡ separated_from (λ _. false) ((spec.readers l.self.depth).expr 1) (l._turn-end - l._turn) (found l.found.items l.room) l.cursor
