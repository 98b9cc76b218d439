-- What a function gives of the numbers of a list, where it gives something.
use Rattle.std.proofs.Common.{◌≡◌, ◌<◌, ◌↔◌, ℕ, zero, suc, true, List, [], ◌∷◌, ◌++◌, append_assoc, length, eqb, Option, Some, None, All, Contains, refl, sym, ap, ◌∙◌, subst, inl, inr, arith}
use Rattle.std.specs.List.{filter_map, cons_option, slice_get}
use Rattle.std.specs.List.Sorted.{IsStrictlyIncreasing}
use Rattle.std.proofs.lemmas.Bool.{eq-eqb, eqb-true, false≢true, or_cases, or_left, or_right}
use Rattle.std.proofs.lemmas.Option.{slice_get_within, get_or_from_slice_get, slice_get-get_or, none-some}
use Rattle.lk_facts.specs.Places.{AreDifferent}
use Rattle.lk_sets.specs.Ids.{has_id}
use Rattle.lk_sets.proofs.Members.{Contains-from_has_id, has_id-from_Contains}
use Rattle.lk_sets.proofs.Rising.{tail_above, tail_rises}

-- what stands at a place is an element
pub contained : {X : Type 0} (xs : List X) (i : ℕ) (x : X) → slice_get xs i ≡ Some x → Contains xs x
contained xs i x at = (i, slice_get_within xs i x at, get_or_from_slice_get xs i x x at)

-- what holds of whatever stands at a place holds of each element
pub All-from_places : {X : Type 0} (P : X → Type 0) (xs : List X) → ((i : ℕ) (x : X) → slice_get xs i ≡ Some x → P x) → All P xs
All-from_places P xs each = λ k d within. each k _ (slice_get-get_or xs k d within)

-- a list of one has no two equal
pub one_different : {X : Type 0} (x : X) → AreDifferent (x ∷ [])
one_different x zero zero y at at' = refl
one_different x zero (suc j) y at at' = absurd (none-some y at')
one_different x (suc i) j y at at' = absurd (none-some y at)

module _ {Y : Type 0} (h : ℕ → Option Y) where
  pub given_by : (xs : List ℕ) (i : ℕ) (y : Y) → slice_get (filter_map h xs) i ≡ Some y → (x : ℕ) × (has_id xs x ≡ true) × (h x ≡ Some y)
  given_by [] i y at = absurd (none-some y at)
  given_by (x ∷ xs) i y at = of (λ j at'. let found = given_by xs j y at' in (found.0, or_right (eqb x found.0) _ found.1, found.2)) (h x) refl i at
    where
      of : ((j : ℕ) → slice_get (filter_map h xs) j ≡ Some y → (z : ℕ) × (has_id (x ∷ xs) z ≡ true) × (h z ≡ Some y)) →
          (kept : Option Y) → h x ≡ kept → (i : ℕ) → slice_get (cons_option kept (filter_map h xs)) i ≡ Some y → (z : ℕ) × (has_id (x ∷ xs) z ≡ true) × (h z ≡ Some y)
      of later None is i at = later i at
      of later (Some w) is zero at = (x, or_left _ _ (eq-eqb x x refl), is ∙ at)
      of later (Some w) is (suc i) at = later i at

  pub given_place : (xs : List ℕ) (x : ℕ) (y : Y) → has_id xs x ≡ true → h x ≡ Some y → (i : ℕ) × (slice_get (filter_map h xs) i ≡ Some y)
  given_place [] x y there is = absurd (false≢true there)
  given_place (z ∷ zs) x y there is =
      elim (or_cases (eqb z x) (has_id zs x) there) [
        | inl same ↦ (0, ap (λ kept. slice_get (cons_option kept (filter_map h zs)) 0) (ap h (eqb-true z x same) ∙ is))
        | inr later ↦ behind (h z) (given_place zs x y later is)
      ]
    where
      behind : (kept : Option Y) → (i : ℕ) × (slice_get (filter_map h zs) i ≡ Some y) → (i : ℕ) × (slice_get (cons_option kept (filter_map h zs)) i ≡ Some y)
      behind None found = found
      behind (Some w) found = (suc found.0, found.1)

  -- no two are equal, where numbers ascend of which no two give the same
  pub given_different : (xs : List ℕ) → IsStrictlyIncreasing xs → ((x z : ℕ) (y : Y) → h x ≡ Some y → h z ≡ Some y → x ≡ z) → AreDifferent (filter_map h xs)
  given_different [] rises same i j y at at' = absurd (none-some y at)
  given_different (x ∷ xs) rises same i j y at at' = of (given_different xs (tail_rises x xs rises) same) (h x) refl i j at at'
    where
      not_again : (k : ℕ) → h x ≡ Some y → slice_get (filter_map h xs) k ≡ Some y → ⊥
      not_again k is at =
          let found = given_by xs k y at in
          let one : x ≡ found.0 = same x found.0 y is found.2 in
          let above : x < found.0 = tail_above x xs rises found.0 found.1 in
          absurd (omega (arith, one, above))

      of : AreDifferent (filter_map h xs) → (kept : Option Y) → h x ≡ kept → (i j : ℕ) → slice_get (cons_option kept (filter_map h xs)) i ≡ Some y → slice_get (cons_option kept (filter_map h xs)) j ≡ Some y → i ≡ j
      of rest None is i j at at' = rest i j y at at'
      of rest (Some w) is zero zero at at' = refl
      of rest (Some w) is zero (suc j) at at' = absurd (not_again j (is ∙ at) at')
      of rest (Some w) is (suc i) zero at at' = absurd (not_again i (is ∙ at') at)
      of rest (Some w) is (suc i) (suc j) at at' = ap suc (rest i j y at at')

-- the numbers that are given
pub has_id-filter_map : (h : ℕ → Option ℕ) (xs : List ℕ) (y : ℕ) → (has_id (filter_map h xs) y ≡ true) ↔ ((x : ℕ) × (has_id xs x ≡ true) × (h x ≡ Some y))
has_id-filter_map h xs y = (
  λ there.
      let place = Contains-from_has_id (filter_map h xs) y there in
      given_by h xs place.0 y (slice_get-get_or (filter_map h xs) place.0 y place.1 ∙ ap Some place.2),
  λ found. has_id-from_Contains (filter_map h xs) y (let place = given_place h xs found.0 y found.1 found.2 in contained (filter_map h xs) place.0 y place.1),
)

-- what is given of the numbers that are left, once one more was read
module _ (h : ℕ → Option ℕ) (xs rest ids whole : List ℕ) (x : ℕ) (read : xs ≡ x ∷ rest) (before : ids ++ filter_map h xs ≡ whole) where
  pub given_more : (new : List ℕ) (y : ℕ) → new ≡ ids ++ y ∷ [] → h x ≡ Some y → new ++ filter_map h rest ≡ whole
  given_more new y pushed is =
      ap (λ l. l ++ filter_map h rest) pushed ∙ append_assoc ids (y ∷ []) (filter_map h rest) ∙ ap (λ kept. ids ++ cons_option kept (filter_map h rest)) (sym is) ∙ ap (λ l. ids ++ filter_map h l) (sym read) ∙ before

  pub given_none : h x ≡ None → ids ++ filter_map h rest ≡ whole
  given_none is = ap (λ kept. ids ++ cons_option kept (filter_map h rest)) (sym is) ∙ ap (λ l. ids ++ filter_map h l) (sym read) ∙ before
