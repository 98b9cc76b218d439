-- No struct of a set has two places.
use Rattle.std.proofs.Common.{◌≡◌, ℕ, zero, suc, List, [], ◌∷◌, Some, false, refl, ap, subst}
use Rattle.std.proofs.lemmas.Option.{none-some, same_Some}
use Rattle.std.specs.List.{slice_get, IsDistinct, AllByRecursion}
use Rattle.lk_link.specs.declared.place.StructOf.{StructOf}
use Rattle.lk_link.proofs.Meeting.{same_struct, structs_differ}

all_at : {X : Type 0} (P : X → Type 0) (xs : List X) (i : ℕ) (x : X) → AllByRecursion P xs → slice_get xs i ≡ Some x → P x
all_at P [] i x h at = absurd (none-some x at)
all_at P (y ∷ xs) zero x h at = subst P (same_Some y x at) h.0
all_at P (y ∷ xs) (suc i) x h at = all_at P xs i x h.1 at

-- the first of a list doesn't stand later
never_later : (x : StructOf) (xs : List StructOf) (i : ℕ) (s : StructOf) → AllByRecursion (λ y. same_struct x y ≡ false) xs → x ≡ s → slice_get xs i ≡ Some s → ⊥
never_later x xs i s h same at = structs_differ x s (all_at (λ y. same_struct x y ≡ false) xs i s h at) same

pub distinct_places : (xs : List StructOf) → IsDistinct same_struct xs → (i j : ℕ) (s : StructOf) → slice_get xs i ≡ Some s → slice_get xs j ≡ Some s → i ≡ j
unfolding IsDistinct
distinct_places [] h i j s at bt = absurd (none-some s at)
distinct_places (x ∷ xs) h zero zero s at bt = refl
distinct_places (x ∷ xs) h zero (suc j) s at bt = absurd (never_later x xs j s h.0 (same_Some x s at) bt)
distinct_places (x ∷ xs) h (suc i) zero s at bt = absurd (never_later x xs i s h.0 (same_Some x s bt) at)
distinct_places (x ∷ xs) h (suc i) (suc j) s at bt = ap suc (distinct_places xs h.1 i j s at bt)
