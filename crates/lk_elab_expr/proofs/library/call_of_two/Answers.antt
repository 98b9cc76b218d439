use Rattle.std.proofs.Common.{◌∙◌, ◌++◌, ◌∷◌, [], ap}
use Rattle.lk_elab_expr.proofs.library.call_of_two.Goals as goal

pub returns : goal.returns
returns c = record {
  first = c.in_ok-a.a;
  second = c.in_ok-b.b;
  given = c.in_ok-b.ensures ∙ ap (λ vs. vs ++ c.in_ok-b.b ∷ []) (c.in_ok-a.ensures ∙ ap (λ vs. vs ++ c.in_ok-a.a ∷ []) c.in_ok-nothing_left.ensures);
  made = c.of_two.ensures;
}
