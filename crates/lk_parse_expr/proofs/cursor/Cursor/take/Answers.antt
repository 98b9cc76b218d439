use Rattle.std.proofs.Common.{ap, sym, ◌∙◌}
use Rattle.lk_parse_expr.specs.Input.{next}
use Rattle.lk_parse_expr.proofs.Taking.{next_taken}
use Rattle.lk_parse_expr.proofs.cursor.Cursor.take.Goals as goal

pub returns-then-self : goal.returns-then-self
returns-then-self c = let step = next_taken c.self.inside.source.now c.self.inside.tokens.now c.self.inside.names c.self.inside.taken in
    sym (ap next (sym c.self.view_is) ∙ step)
