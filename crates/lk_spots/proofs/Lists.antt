-- A property of each element of a list, of a part that may be missing, and of those that a walk numbers.
use Rattle.std.proofs.Common.{◌≡◌, inl, inr, ℕ, zero, suc, List, [], ◌∷◌, ◌++◌, Option, Some, None, map, refl, sym, subst}
use Rattle.std.specs.List.{slice_get}
use Rattle.std.specs.Option.{option_map}
use Rattle.std.proofs.lemmas.Option.{none-some, same_Some}
use Rattle.lk_tree.specs.Numbers.{Numbered, list, list_of, optional, optional_of}
use Rattle.lk_typed.specs.Stands.{IsIn}
use Rattle.lk_spots.specs.Places.{Each, IfThere}

module _ {A : Type 0} (Q : A → Type 0) where
  pub each_none : Each Q []
  each_none a none = absurd none

  pub each_more : (x : A) (xs : List A) → Q x → Each Q xs → Each Q (x ∷ xs)
  each_more x xs first others a (inl is) = subst Q (sym is) first
  each_more x xs first others a (inr is) = others a is

  pub each_one : (x : A) → Q x → Each Q (x ∷ [])
  each_one x first = each_more x [] first each_none

  pub each_both : (xs ys : List A) → Each Q xs → Each Q ys → Each Q (xs ++ ys)
  each_both [] ys first others = others
  each_both (x ∷ xs) ys first others = each_more x (xs ++ ys) (first x (inl refl)) (each_both xs ys (λ a is. first a (inr is)) others)

  -- what stands at a number
  pub at_each : (xs : List A) → Each Q xs → (l : ℕ) (a : A) → slice_get xs l ≡ Some a → Q a
  at_each [] all l a is = absurd (none-some a is)
  at_each (x ∷ xs) all zero a is = subst Q (same_Some x a is) (all x (inl refl))
  at_each (x ∷ xs) all (suc l) a is = at_each xs (λ a is. all a (inr is)) l a is

  pub if_missing : IfThere Q None
  if_missing a is = absurd (none-some a is)

  pub if_there : (x : A) → Q x → IfThere Q (Some x)
  if_there x holds a is = subst Q (same_Some x a is) holds

  -- ---- numbered by a walk

  module _ (number : A → Numbered A) where
    pub each_numbered : (xs : List A) → ((a : A) → IsIn a xs → (n : ℕ) → Q (number a n).0) → (n : ℕ) → Each Q (list (map number xs) n).0
    each_numbered [] all n = each_none
    each_numbered (x ∷ xs) all n = each_more (number x n).0 _ (all x (inl refl) n) (each_numbered xs (λ a is. all a (inr is)) (number x n).1)

    pub each_of_numbered : (xs : List A) → ((a : A) → IsIn a xs → (n : ℕ) → Q (number a n).0) → (n : ℕ) → Each Q (list_of number xs n).0
    each_of_numbered [] all n = each_none
    each_of_numbered (x ∷ xs) all n = each_more (number x n).0 _ (all x (inl refl) n) (each_of_numbered xs (λ a is. all a (inr is)) (number x n).1)

    pub optional_numbered : (part : Option A) → ((a : A) → part ≡ Some a → (n : ℕ) → Q (number a n).0) → (n : ℕ) → IfThere Q (optional (option_map number part) n).0
    optional_numbered None all n = if_missing
    optional_numbered (Some a) all n = if_there (number a n).0 (all a refl n)

    pub optional_of_numbered : (part : Option A) → ((a : A) → part ≡ Some a → (n : ℕ) → Q (number a n).0) → (n : ℕ) → IfThere Q (optional_of number part n).0
    optional_of_numbered None all n = if_missing
    optional_of_numbered (Some a) all n = if_there (number a n).0 (all a refl n)
