-- What is told of locations, one after the other.
use Rattle.std.proofs.Common.{◌≡◌, ℕ, ◌+◌, List, [], ◌∷◌, ◌++◌, codes, sym, subst}
use Rattle.lk_facts.specs.declared.program.Program.{Program}
use Rattle.lk_report.specs.Names.{place_text}
use Rattle.lk_witness.specs.Calls.{AddsLine}
use Rattle.lk_witness.specs.Searched.{AreTold, is_shown, not_shown}
use Rattle.lk_witness.specs.Shown.{Shows}
use Rattle.lk_witness.specs.declared.telling.Searched.{Searched}

module _ (files : List (List ℕ)) (program : Program) (n : ℕ) (old new : Searched) where
  -- with a schedule
  pub adds_shown : (bytes : List ℕ) → Shows files program n bytes →
      new.text.items ≡ old.text.items ++ (codes "shown " ++ (place_text files program n ++ 10 ∷ bytes)) →
      new.shown ≡ old.shown + 1 → AddsLine files program n old new
  adds_shown bytes shows text shown ns told =
      subst (λ t. AreTold files program (ns ++ n ∷ []) t new.shown) (sym text)
      (subst (λ k. AreTold files program (ns ++ n ∷ []) (old.text.items ++ (codes "shown " ++ (place_text files program n ++ 10 ∷ bytes))) k) (sym shown)
      (is_shown n bytes told shows))

  -- and without
  pub adds_none : new.text.items ≡ old.text.items ++ (codes "not shown " ++ (place_text files program n ++ 10 ∷ [])) →
      new.shown ≡ old.shown → AddsLine files program n old new
  adds_none text shown ns told =
      subst (λ t. AreTold files program (ns ++ n ∷ []) t new.shown) (sym text)
      (subst (λ k. AreTold files program (ns ++ n ∷ []) (old.text.items ++ (codes "not shown " ++ (place_text files program n ++ 10 ∷ []))) k) (sym shown)
      (not_shown n told))
