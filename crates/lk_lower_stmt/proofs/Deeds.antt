-- The steps of a declared name, the last of them apart.
use Rattle.std.proofs.Common.{arith, sym, ap, ◌∙◌, ◌≡◌, ◌+◌, ◌++◌, refl, ℕ, List, add-one, append_assoc}
use Rattle.std.proofs.lemmas.List.{reverse-append}
use Rattle.std.specs.Prelude.{[], ◌∷◌, length, reverse, suc}
use Rattle.lk_base.specs.declared.spot.Spot.{Spot}
use Rattle.lk_lower_expr.specs.Initialisers.{comes_to, numbered}
use Rattle.lk_lower_expr.specs.Parts.{step}
use Rattle.lk_lower_expr.specs.declared.step.Deed.{Deed}
use Rattle.lk_lower_expr.specs.declared.step.Step.{Step}

module _ (at : ℕ → ℕ) (spot : Spot) where
  shifted : (k n : ℕ) → suc k + n ≡ k + suc n
  shifted k n = omega arith

  from_zero : (n : ℕ) → 0 + n ≡ n
  from_zero n = omega arith

  -- the step before which others stand
  pub numbered_last : (k : ℕ) (deeds : List Deed) (last : Deed) (on : ℕ) →
      numbered at spot k (deeds ++ (last ∷ [])) on ≡ numbered at spot k deeds (comes_to at (k + length deeds) last) ++ (step last.does last.gives spot on ∷ [])
  numbered_last k [] last on = refl
  numbered_last k (one ∷ []) last on =
      ap (λ n. step one.does one.gives spot (comes_to at n last) ∷ (step last.does last.gives spot on ∷ [])) (sym (add-one k))
  numbered_last k (one ∷ (next ∷ others)) last on =
      ap (λ steps. step one.does one.gives spot (comes_to at (suc k) next) ∷ steps) (numbered_last (suc k) (next ∷ others) last on ∙
      ap (λ n. numbered at spot (suc k) (next ∷ others) (comes_to at n last) ++ (step last.does last.gives spot on ∷ [])) (shifted k (length (next ∷ others))))

  -- one step more of a list that is made from its end
  pub one_more : (all : List Step) (old rest : List Deed) (last : Deed) (on next : ℕ) (steps new : List Step) →
      all ≡ numbered at spot 0 old on ++ reverse steps → old ≡ rest ++ (last ∷ []) → next ≡ comes_to at (length rest) last →
      new ≡ steps ++ (step last.does last.gives spot on ∷ []) → all ≡ numbered at spot 0 rest next ++ reverse new
  one_more all old rest last on next steps new whole popped goes pushed =
      whole ∙ ap (λ ds. numbered at spot 0 ds on ++ reverse steps) popped ∙ ap (λ ss. ss ++ reverse steps) (numbered_last 0 rest last on ∙
      ap (λ n. numbered at spot 0 rest (comes_to at n last) ++ (step last.does last.gives spot on ∷ [])) (from_zero (length rest))) ∙
      ap (λ n. (numbered at spot 0 rest n ++ (step last.does last.gives spot on ∷ [])) ++ reverse steps) (sym goes) ∙
      append_assoc (numbered at spot 0 rest next) (step last.does last.gives spot on ∷ []) (reverse steps) ∙
      ap (λ ss. numbered at spot 0 rest next ++ ss) (sym (ap reverse pushed ∙ reverse-append steps (step last.does last.gives spot on ∷ [])))
