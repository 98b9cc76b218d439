-- A property of each element of a list, of what is found in it, and of a part that may be missing.
use Rattle.std.proofs.Common.{◌≡◌, ◌∙◌, inl, inr, ℕ, suc, Bool, true, false, cond, List, [], ◌∷◌, ◌++◌, Option, Some, None, refl, sym, ap}
use Rattle.std.proofs.lemmas.List.Elements.{All-nil, All-cons, All-contains}
use Rattle.std.proofs.lemmas.Option.{same_Some}
use Rattle.std.specs.List.{All, AllByRecursion, Contains, find, slice_get}
use Rattle.std.specs.Option.{option_or}
use Rattle.lk_spots.specs.Places.{Each, IfThere}
use Rattle.lk_spots.proofs.Lists.{if_missing, if_there}

-- what stands in a list at one number
pub same_there : {A : Type 0} (xs : List A) (m n : ℕ) (a b : A) → m ≡ n → slice_get xs m ≡ Some a → slice_get xs n ≡ Some b → a ≡ b
same_there xs m n a b same first second = same_Some a b (sym first ∙ ap (λ k. slice_get xs k) same ∙ second)

module _ {A : Type 0} (Q : A → Type 0) where
  -- ---- of each element

  all_of_each : (xs : List A) → Each Q xs → All Q xs
  all_of_each [] all = All-nil Q
  all_of_each (x ∷ xs) all = All-cons Q x xs (all x (inl refl)) (all_of_each xs (λ a is. all a (inr is)))

  pub contained : (xs : List A) → Each Q xs → (x : A) → Contains xs x → Q x
  contained xs all x has = All-contains Q xs x (all_of_each xs all) has

  pub all_by_number : (xs : List A) → ((n : ℕ) (a : A) → slice_get xs n ≡ Some a → Q a) → All Q xs
  all_by_number [] all = All-nil Q
  all_by_number (x ∷ xs) all = All-cons Q x xs (all 0 x refl) (all_by_number xs (λ n a is. all (suc n) a is))

  pub both : (xs ys : List A) → AllByRecursion Q xs → AllByRecursion Q ys → AllByRecursion Q (xs ++ ys)
  both [] ys first others = others
  both (x ∷ xs) ys first others = (first.0, both xs ys first.1 others)

  -- ---- of a part that may be missing

  if_either : (test : Bool) (a b : Option A) → IfThere Q a → IfThere Q b → IfThere Q (cond test a b)
  if_either true a b x y = x
  if_either false a b x y = y

  pub if_or : (a b : Option A) → IfThere Q a → IfThere Q b → IfThere Q (option_or a b)
  if_or None b x y = y
  if_or (Some a) b x y = x

  pub if_found : (test : A → Bool) (xs : List A) → Each Q xs → IfThere Q (find test xs)
  if_found test [] all = if_missing Q
  if_found test (x ∷ xs) all = if_either (test x) (Some x) (find test xs) (if_there Q x (all x (inl refl))) (if_found test xs (λ a is. all a (inr is)))
