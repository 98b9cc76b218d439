use Rattle.std.proofs.Common.{◌∙◌, ◌++◌, ◌∷◌, [], ap}
use Rattle.lk_elab_expr.proofs.library.call_of_one.Goals as goal

pub returns : goal.returns
returns c = record {
  argument = c.in_ok-a.a;
  given = c.in_ok-a.ensures ∙ ap (λ vs. vs ++ c.in_ok-a.a ∷ []) c.in_ok-nothing_left.ensures;
  made = c.of_one.ensures;
}
