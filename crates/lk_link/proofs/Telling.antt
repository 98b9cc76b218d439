-- The order in which clashes are told.
use Rattle.std.proofs.Common.{◌≡◌, ◌⊎◌, inl, inr, ◌<◌, ◌≤◌, ◌+◌, ℕ, List, sym, subst, length, get_or, arith}
use Rattle.std.proofs.lemmas.Option.{get_or_from_slice_get}
use Rattle.std.proofs.Math.Nat.{eq-or-lt_of_le}
use Rattle.lk_types.proofs.KeptLemmas.{read_got}
use Rattle.lk_link.specs.Clashes.{IsToldBefore}
use Rattle.lk_link.specs.declared.clash.Clash.{Clash}

pub told_not_itself : (a : Clash) → IsToldBefore a a → ⊥
told_not_itself a (inl (inl less)) = absurd (omega (arith, less))
told_not_itself a (inl (inr h)) = let less = h.1 in absurd (omega (arith, less))
told_not_itself a (inr h) = let less = h.2 in absurd (omega (arith, less))

pub told_then : (a b c : Clash) → IsToldBefore a b → IsToldBefore b c → IsToldBefore a c
told_then a b c (inl (inl h)) (inl (inl k)) = inl (inl (omega (arith, h, k)))
told_then a b c (inl (inl h)) (inl (inr k)) = let e = k.0 in inl (inl (omega (arith, h, e)))
told_then a b c (inl (inl h)) (inr k) = let e = k.0 in inl (inl (omega (arith, h, e)))
told_then a b c (inl (inr h)) (inl (inl k)) = let e = h.0 in inl (inl (omega (arith, k, e)))
told_then a b c (inl (inr h)) (inl (inr k)) = let e = h.0 in let d = k.0 in let l = h.1 in let m = k.1 in inl (inr (omega (arith, e, d), omega (arith, l, m)))
told_then a b c (inl (inr h)) (inr k) = let e = h.0 in let d = k.0 in let l = h.1 in let m = k.1 in inl (inr (omega (arith, e, d), omega (arith, l, m)))
told_then a b c (inr h) (inl (inl k)) = let e = h.0 in inl (inl (omega (arith, k, e)))
told_then a b c (inr h) (inl (inr k)) = let e = h.0 in let d = k.0 in let l = h.1 in let m = k.1 in inl (inr (omega (arith, e, d), omega (arith, l, m)))
told_then a b c (inr h) (inr k) = let e = h.0 in let d = k.0 in let l = h.1 in let m = k.1 in let x = h.2 in let y = k.2 in inr (omega (arith, e, d), omega (arith, l, m), omega (arith, x, y))

module _ (xs : List Clash) (best place : ℕ) (new old : Clash) (best_in : best < length xs) (place_in : place < length xs) (new_is : new ≡ get_or xs place new) (old_is : old ≡ get_or xs best old)
    (before : (k : ℕ) (d : Clash) → k < place → IsToldBefore (get_or xs k d) (get_or xs best d) → ⊥) where
  new_at : (d : Clash) → get_or xs place d ≡ new
  new_at d = get_or_from_slice_get xs place new d (read_got xs place new place_in new_is)

  old_at : (d : Clash) → get_or xs best d ≡ old
  old_at d = get_or_from_slice_get xs best old d (read_got xs best old best_in old_is)

  at_most : (k : ℕ) → k < place + 1 → k ≤ place
  at_most k less = omega arith

  -- the new one is told before the best of those before it
  pub best_taken : IsToldBefore new old → (place < length xs) × ((k : ℕ) → (d : Clash) → k < place + 1 → IsToldBefore (get_or xs k d) (get_or xs place d) → ⊥)
  best_taken told = (place_in, λ k d less. none_before k d (eq-or-lt_of_le (at_most k less)))
    where
      none_before : (k : ℕ) (d : Clash) → (k ≡ place) ⊎ (k < place) → IsToldBefore (get_or xs k d) (get_or xs place d) → ⊥
      none_before k d (inl is) h = told_not_itself (get_or xs place d) (subst (λ k. IsToldBefore (get_or xs k d) (get_or xs place d)) is h)
      none_before k d (inr less) h =
          let there = subst (λ x. IsToldBefore x (get_or xs best d)) (sym (new_at d)) (subst (IsToldBefore new) (sym (old_at d)) told) in
          before k d less (told_then (get_or xs k d) (get_or xs place d) (get_or xs best d) h there)

  -- it isn't
  pub best_kept : (IsToldBefore new old → ⊥) → (best < length xs) × ((k : ℕ) → (d : Clash) → k < place + 1 → IsToldBefore (get_or xs k d) (get_or xs best d) → ⊥)
  best_kept other = (best_in, λ k d less. none_before k d (eq-or-lt_of_le (at_most k less)))
    where
      none_before : (k : ℕ) (d : Clash) → (k ≡ place) ⊎ (k < place) → IsToldBefore (get_or xs k d) (get_or xs best d) → ⊥
      none_before k d (inl is) h = other (subst (λ x. IsToldBefore x old) (new_at d) (subst (IsToldBefore (get_or xs place d)) (old_at d) (subst (λ k. IsToldBefore (get_or xs k d) (get_or xs best d)) is h)))
      none_before k d (inr less) h = before k d less h
