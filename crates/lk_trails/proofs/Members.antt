-- What is in a list in which one was put, or to which one was added.
use Rattle.std.proofs.Common.{◌≡◌, ◌⊎◌, ℕ, ◌<◌, zero, suc, List, [], ◌∷◌, ◌++◌, length, Some, inl, inr, refl, sym, ap, arith}
use Rattle.std.proofs.lemmas.Option.{none-some, same_Some, slice_get_within}
use Rattle.std.specs.Prelude.{slice_get, slice_set}

module _ {X : Type 0} where
  -- what is within a list is there
  pub get_within : (xs : List X) (i : ℕ) → i < length xs → (x : X) × (slice_get xs i ≡ Some x)
  get_within [] i within = absurd (omega (arith, within))
  get_within (x ∷ xs) zero within = (x, refl)
  get_within (x ∷ xs) (suc i) within = get_within xs i (omega (arith, within))

  -- what is there, where one was put, is that one, or was there at another place
  pub put_cases : (xs : List X) (i n : ℕ) (y x : X) → slice_get (slice_set xs i y) n ≡ Some x → ((n ≡ i) × (x ≡ y)) ⊎ ((n ≡ i → ⊥) × (slice_get xs n ≡ Some x))
  put_cases [] i n y x is = absurd (none-some x is)
  put_cases (z ∷ xs) zero zero y x is = inl (refl, same_Some x y (sym is))
  put_cases (z ∷ xs) zero (suc n) y x is = inr ((λ h. omega (arith, h)), is)
  put_cases (z ∷ xs) (suc i) zero y x is = inr ((λ h. omega (arith, h)), is)
  put_cases (z ∷ xs) (suc i) (suc n) y x is = elim (put_cases xs i n y x is) [
    | inl here ↦ inl (ap suc here.0, here.1)
    | inr there ↦ inr ((λ h. there.0 (omega (arith, h))), there.1)
  ]

  pub put_same : (xs : List X) (i : ℕ) (x y : X) → slice_get xs i ≡ Some x → slice_get (slice_set xs i y) i ≡ Some y
  put_same [] i x y there = absurd (none-some x there)
  put_same (z ∷ xs) zero x y there = refl
  put_same (z ∷ xs) (suc i) x y there = put_same xs i x y there

  -- what is there, where one was added at the end, was there or is that one
  pub added_cases : (xs : List X) (y : X) (n : ℕ) (x : X) → slice_get (xs ++ y ∷ []) n ≡ Some x → (slice_get xs n ≡ Some x) ⊎ ((n ≡ length xs) × (x ≡ y))
  added_cases [] y zero x is = inr (refl, same_Some x y (sym is))
  added_cases [] y (suc n) x is = absurd (none-some x is)
  added_cases (z ∷ xs) y zero x is = inl is
  added_cases (z ∷ xs) y (suc n) x is = elim (added_cases xs y n x is) [ inl was ↦ inl was | inr last ↦ inr (ap suc last.0, last.1) ]

-- of two lists of one length, to each of which one was added: what is there in both was there in both, or is what was added
pub both_added : {X Y : Type 0} → (xs : List X) (ys : List Y) (x : X) (y : Y) (n : ℕ) (a : X) (b : Y) → length xs ≡ length ys →
    slice_get (xs ++ x ∷ []) n ≡ Some a → slice_get (ys ++ y ∷ []) n ≡ Some b →
    ((slice_get xs n ≡ Some a) × (slice_get ys n ≡ Some b)) ⊎ ((n ≡ length ys) × (a ≡ x) × (b ≡ y))
both_added xs ys x y n a b many a_at b_at = elim (added_cases xs x n a a_at) [
  | inl a_was ↦ elim (added_cases ys y n b b_at) [
    | inl b_was ↦ inl (a_was, b_was)
    | inr b_last ↦ (let within = slice_get_within xs n a a_was in let last = b_last.0 in absurd (omega (arith, within, last, many)))
  ]
  | inr a_last ↦ elim (added_cases ys y n b b_at) [
    | inl b_was ↦ (let within = slice_get_within ys n b b_was in let last = a_last.0 in absurd (omega (arith, within, last, many)))
    | inr b_last ↦ inr (b_last.0, a_last.1, b_last.1)
  ]
]
