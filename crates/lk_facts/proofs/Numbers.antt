-- The numbers of things in a list, where a test tells which are the same.
use Rattle.std.proofs.Common.{◌≡◌, ◌↔◌, ◌<◌, ℕ, ◌++◌, ◌∷◌, [], Bool, true, false, List, length, get_or, Contains, Option, None, Some, refl, sym, subst, ap, ◌∙◌, arith, inl, inr}
use Rattle.std.specs.Prelude.{slice_get, is_some, position, if◌then◌else◌}
use Rattle.std.specs.List.{list_any, position_or_len, IsDistinct}
use Rattle.std.proofs.lemmas.Bool.{false≢true, cases_eq, cases_lt}
use Rattle.std.proofs.lemmas.List.Folds.{list_any_at, Any-from_list_any}
use Rattle.std.proofs.lemmas.List.Quantifiers.{position-Some}
use Rattle.std.proofs.lemmas.List.Sums.{position_or_len_is}
use Rattle.std.proofs.lemmas.Map.Made.{AllPairs-from_IsDistinct}
use Rattle.std.proofs.lemmas.Option.{slice_get-get_or, slice_get_within, get_or_from_slice_get}
use Rattle.lk_facts.specs.Places.{AreDifferent, IsMissing, IsNumberOf, IsPut}

module _ {X : Type 0} (test : X → X → Bool) (same : (a b : X) → test a b ≡ true → a ≡ b) (itself : (a : X) → test a a ≡ true) where
  missing : (xs : List X) (x : X) → list_any (test x) xs ≡ false → IsMissing xs x
  missing xs x none i at =
      let there : test x (get_or xs i x) ≡ true = subst (λ y. test x y ≡ true) (sym (get_or_from_slice_get xs i x x at)) (itself x) in
      false≢true (sym none ∙ list_any_at (test x) xs i x (slice_get_within xs i x at) there)

  found : (xs : List X) (x : X) (i : ℕ) → position (test x) xs ≡ Some i → slice_get xs i ≡ Some x
  found xs x i is =
      let at = position-Some (test x) xs i x is in
      slice_get-get_or xs i x at.0 ∙ ap Some (sym (same x (get_or xs i x) at.1))

  -- what a search by the test gives is the number
  pub number_of : (xs : List X) (x : X) (result : Option ℕ) → result ≡ position (test x) xs → is_some result ≡ list_any (test x) xs → IsNumberOf xs x result
  number_of xs x None is some = missing xs x (sym some)
  number_of xs x (Some i) is some = found xs x i (sym is)

  -- things of which no two are the same are different
  pub different : (xs : List X) → IsDistinct test xs → AreDifferent xs
  different xs distinct i j x at at' =
      elim (cases_eq i j) [
        | inl equal ↦ equal
        | inr other ↦ elim (cases_lt i j) [
          | inl less ↦ absurd (apart i j less at at')
          | inr more ↦ absurd (apart j i (omega arith) at' at)
        ]
      ]
    where
      apart : (i j : ℕ) → i < j → slice_get xs i ≡ Some x → slice_get xs j ≡ Some x → ⊥
      apart i j less at at' =
          AllPairs-from_IsDistinct (λ a b. (same a b, λ equal. subst (λ c. test a c ≡ true) equal (itself a))) xs distinct i j x less (slice_get_within xs j x at')
          (get_or_from_slice_get xs i x x at ∙ sym (get_or_from_slice_get xs j x x at'))

  -- what an insertion of x gives puts it
  pub put : (old new : List X) (x : X) (number : ℕ) →
      new ≡ (if list_any (test x) old then old else old ++ x ∷ []) → number ≡ position_or_len (test x) old → ((k : X) × (slice_get new number ≡ Some k) × (test x k ≡ true)) → IsPut old new x number
  put old new x number keys index stored = of (list_any (test x) old) refl keys
    where
      of : (there : Bool) → list_any (test x) old ≡ there → new ≡ (if there then old else old ++ x ∷ []) → IsPut old new x number
      of true is keys' = IsPut.there (subst (λ k. slice_get old number ≡ Some k) (sym (same x stored.0 stored.2)) (subst (λ xs. slice_get xs number ≡ Some stored.0) keys' stored.1)) keys'
      of false is keys' =
          let none = missing old x is in
          let last : position_or_len (test x) old ≡ length old = position_or_len_is (test x) old (length old) x (omega arith) (λ k below. fails k below (test x (get_or old k x)) refl) (λ past. absurd (omega arith)) in
          subst (IsPut old new x) (sym (index ∙ last)) (IsPut.added none keys')
        where
          fails : (k : ℕ) → k < length old → (b : Bool) → test x (get_or old k x) ≡ b → b ≡ false
          fails k below true at = absurd (false≢true (sym is ∙ list_any_at (test x) old k x below at))
          fails k below false at = refl

  -- an insertion of what wasn't there puts it at the end
  pub added : (old new : List X) (x : X) → IsMissing old x → new ≡ (if list_any (test x) old then old else old ++ x ∷ []) → new ≡ old ++ x ∷ []
  added old new x out keys = of (list_any (test x) old) refl keys
    where
      of : (there : Bool) → list_any (test x) old ≡ there → new ≡ (if there then old else old ++ x ∷ []) → new ≡ old ++ x ∷ []
      of true is keys' =
          let at = Any-from_list_any (test x) old is in
          absurd (out at.0 (slice_get-get_or old at.0 at.1 at.2 ∙ ap Some (at.3 ∙ sym (same x at.1 at.4))))
      of false is keys' = keys'

  -- whether a thing is in the list
  pub contains : (xs : List X) (x : X) (b : Bool) → b ≡ list_any (test x) xs → (b ≡ true) ↔ Contains xs x
  contains xs x b is = (there, back)
    where
      there : b ≡ true → Contains xs x
      there is_true =
          let at = Any-from_list_any (test x) xs (sym is ∙ is_true) in
          subst (Contains xs) (sym (same x at.1 at.4)) (at.0, at.2, at.3)

      back : Contains xs x → b ≡ true
      back at = is ∙ list_any_at (test x) xs at.0 x at.1 (subst (λ y. test x y ≡ true) (sym at.2) (itself x))
