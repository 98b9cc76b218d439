-- What holds of the elements of a list, and of the numbers below a bound.
use Rattle.std.proofs.Common.{◌≡◌, ◌↔◌, ◌<◌, ◌+◌, ℕ, zero, suc, true, List, [], ◌∷◌, length, Some, refl, sym, subst, inl, inr, eqb, get_or, arith}
use Rattle.std.specs.Option.{option_map, option_and_then}
use Rattle.std.specs.Prelude.{All, slice_get, Option}
use Rattle.std.proofs.lemmas.Bool.{cases_eq, eq-eqb}
use Rattle.std.proofs.lemmas.List.Elements.{All-contains}
use Rattle.std.proofs.lemmas.List.Folds.{list_any_at}
use Rattle.std.proofs.lemmas.Option.{none-some}
use Rattle.lk_sets.proofs.Members.{Contains-from_has_id}
use Rattle.lk_sets.specs.Ids.{has_id}

-- what holds of each number below n, and of n, holds of each below n + 1
pub one_more : (P : ℕ → Type 0) (n : ℕ) → ((k : ℕ) → k < n → P k) → P n → (k : ℕ) → k < n + 1 → P k
one_more P n below here k less =
    elim (cases_eq k n) [
      | inl same ↦ subst P (sym same) here
      | inr apart ↦ below k (omega arith)
    ]

-- what holds of each element holds of each number that the list has, and the other way round
pub all_numbers : (P : ℕ → Type 0) (xs : List ℕ) → All P xs ↔ ((x : ℕ) → has_id xs x ≡ true → P x)
all_numbers P xs = (
  (λ all x has. All-contains P xs x all (Contains-from_has_id xs x has)),
  (λ each k d within. each (get_or xs k d) (list_any_at (λ y. eqb y (get_or xs k d)) xs k d within (eq-eqb _ _ refl))),
)

-- what is read from an element is read from one that is there
pub read_within : {X Y : Type 0} (read : X → Y) (xs : List X) (k : ℕ) (y : Y) → option_map read (slice_get xs k) ≡ Some y → k < length xs
read_within read [] k y is = absurd (none-some y is)
read_within read (x ∷ xs) zero y is = omega arith
read_within read (x ∷ xs) (suc k) y is = let on = read_within read xs k y is in omega (arith, on)

pub found_within : {X Y : Type 0} (read : X → Option Y) (xs : List X) (k : ℕ) (y : Y) → option_and_then read (slice_get xs k) ≡ Some y → k < length xs
found_within read [] k y is = absurd (none-some y is)
found_within read (x ∷ xs) zero y is = omega arith
found_within read (x ∷ xs) (suc k) y is = let on = found_within read xs k y is in omega (arith, on)

-- an element that is there is read
pub read_at : {X Y : Type 0} (read : X → Y) (xs : List X) (k : ℕ) → k < length xs → (y : Y) × (option_map read (slice_get xs k) ≡ Some y)
read_at read [] k within = absurd (omega (arith, within))
read_at read (x ∷ xs) zero within = (read x, refl)
read_at read (x ∷ xs) (suc k) within = read_at read xs k (omega (arith, within))
