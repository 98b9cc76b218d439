use Rattle.std.proofs.Common.{ap, sym, ◌∙◌, arith, rules}
use Rattle.std.proofs.lemmas.Grind.{common_steps}
use Rattle.lk_parse_expr.specs.Input.{text, next}
use Rattle.lk_parse_expr.proofs.Taking.{next_taken}
use Rattle.lk_parse_expr.proofs.cursor.Cursor.second_text.Goals as goal

pub returns-in-Some : goal.returns-in-Some
unfolding text
returns-in-Some c = let step = next_taken c.self.inside.source.now c.self.inside.tokens.now c.self.inside.names c.self.inside.taken in
    let at = ap text (ap next (sym c.self.view_is) ∙ step) in rw at (first_of (search rules, grind (arith, common_steps)))

pub returns-in-None : goal.returns-in-None
unfolding text
returns-in-None c = let step = next_taken c.self.inside.source.now c.self.inside.tokens.now c.self.inside.names c.self.inside.taken in
    let at = ap text (ap next (sym c.self.view_is) ∙ step) in rw at (first_of (search rules, grind (arith, common_steps)))
