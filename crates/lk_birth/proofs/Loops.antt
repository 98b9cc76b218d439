-- What is left of a list in a loop over it.
use Rattle.std.proofs.Common.{◌≡◌, ℕ, suc, ◌+◌, Bool, false, List, ◌∷◌, Some, drop, refl, ap, ◌∙◌, add-one, drop-cons}
use Rattle.std.proofs.lemmas.Option.{slice_get_within, get_or_from_slice_get}
use Rattle.std.specs.List.{position_from}
use Rattle.std.specs.Prelude.{slice_get}

-- the element at an index comes next
pub drop_at : {X : Type 0} → (xs : List X) (i : ℕ) (x : X) → slice_get xs i ≡ Some x → drop i xs ≡ x ∷ drop (suc i) xs
drop_at xs i x there = drop-cons xs i x (slice_get_within xs i x there) ∙ ap (λ y. y ∷ drop (suc i) xs) (get_or_from_slice_get xs i x x there)

-- where an element fails the test, the first that passes it is among those after it
pub position_after : {X : Type 0} (test : X → Bool) (xs : List X) (i : ℕ) (x : X) → slice_get xs i ≡ Some x → test x ≡ false →
    position_from test (i + 1) (drop (i + 1) xs) ≡ position_from test i (drop i xs)
position_after test xs i x there fails = rw (drop_at xs i x there) (rw (fails, add-one i) refl)
