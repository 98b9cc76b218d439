-- Lists that grow by what belongs to each turn of a loop.
use Rattle.std.proofs.Common.{◌≡◌, ◌∙◌, ◌⊎◌, ◌↔◌, inl, inr, ◌<◌, ◌≤◌, ◌+◌, ◌++◌, ◌∷◌, [], ℕ, List, Some, sym, ap, subst, arith}
use Rattle.std.proofs.lemmas.List.Elements.{Contains-append_left, Contains-push, Contains-push_cases}
use Rattle.std.proofs.lemmas.Option.{same_Some, slice_get_within, slice_get-get_or, get_or_from_slice_get}
use Rattle.std.proofs.Math.Nat.{eq-or-lt_of_le}
use Rattle.std.specs.List.{slice_get, Contains}
use Rattle.lk_link.specs.Sites.{Grows, IsOfBelow, IsOfAt}

module _ {A : Type 0} where
  -- an element stands at a place
  pub contains_at : (xs : List A) (i : ℕ) (x : A) → slice_get xs i ≡ Some x → Contains xs x
  contains_at xs i x at = (i, slice_get_within xs i x at, get_or_from_slice_get xs i x x at)

  pub at_contains : (xs : List A) (x : A) → Contains xs x → (i : ℕ) × (slice_get xs i ≡ Some x)
  at_contains xs x h = (h.0, slice_get-get_or xs h.0 x h.1 ∙ ap Some h.2)

  pub nothing_contained : (x : A) → Contains [] x → ⊥
  nothing_contained x h = let less = h.1 in absurd (omega (arith, less))

  pub grows_same : (old : List A) (Is : A → Type 0) → ((x : A) → Is x → ⊥) → Grows old old Is
  grows_same old Is never x = ((λ there. inl there), (λ either. elim either [ inl there ↦ there | inr is ↦ absurd (never x is) ]))

  pub grows_push : (old : List A) (last : A) (Is : A → Type 0) → Is last → ((x : A) → Is x → last ≡ x) → Grows old (old ++ last ∷ []) Is
  grows_push old last Is this only x = (
    (λ among. elim (Contains-push_cases old last x among) [ inl there ↦ inl there | inr same ↦ inr (subst Is same this) ]),
    (λ either. elim either [
      | inl there ↦ Contains-append_left old (last ∷ []) x there
      | inr is ↦ subst (Contains (old ++ last ∷ [])) (only x is) (Contains-push old last)
    ]),
  )

  -- what belongs to the turn is the same by other words
  pub grows_by : (old new : List A) (Is Other : A → Type 0) → ((x : A) → Is x → Other x) → ((x : A) → Other x → Is x) → Grows old new Is → Grows old new Other
  grows_by old new Is Other to from h x = (
    (λ among. elim ((h x).0 among) [ inl there ↦ inl there | inr is ↦ inr (to x is) ]),
    (λ either. (h x).1 (elim either [ inl there ↦ inl there | inr other ↦ inr (from x other) ])),
  )

  -- a list that was empty has these and no others
  pub grows_from_nothing : (new : List A) (Is : A → Type 0) → Grows [] new Is → (x : A) → Contains new x ↔ Is x
  grows_from_nothing new Is h x = (
    (λ among. elim ((h x).0 among) [ inl there ↦ absurd (nothing_contained x there) | inr is ↦ is ]),
    (λ is. (h x).1 (inr is)),
  )

  module _ (Is : ℕ → A → Type 0) where
    pub grows_none : (old : List A) → Grows old old (IsOfBelow Is 0)
    grows_none old = grows_same old (IsOfBelow Is 0) (λ x below. let less = below.1 in absurd (omega (arith, less)))

    below_cases : (n : ℕ) (x : A) → IsOfBelow Is (n + 1) x → IsOfBelow Is n x ⊎ Is n x
    below_cases n x h = elim (eq-or-lt_of_le (at_most h.0 h.1)) [
      | inl last ↦ inr (subst (λ i. Is i x) last h.2)
      | inr less ↦ inl (h.0, less, h.2)
    ]
      where
        at_most : (i : ℕ) → i < n + 1 → i ≤ n
        at_most i less = omega arith

    one_more : (i n : ℕ) → i < n → i < n + 1
    one_more i n less = omega arith

    this_one : (n : ℕ) → n < n + 1
    this_one n = omega arith

    pub grows_more : (n : ℕ) (old now new : List A) → Grows old now (IsOfBelow Is n) → Grows now new (Is n) → Grows old new (IsOfBelow Is (n + 1))
    grows_more n old now new h gain x = (
      (λ among. elim ((gain x).0 among) [
        | inl there ↦ elim ((h x).0 there) [ inl before ↦ inl before | inr below ↦ inr (below.0, one_more below.0 n below.1, below.2) ]
        | inr here ↦ inr (n, this_one n, here)
      ]),
      (λ either. (gain x).1 (elim either [
        | inl before ↦ inl ((h x).1 (inl before))
        | inr below ↦ elim (below_cases n x below) [ inl earlier ↦ inl ((h x).1 (inr earlier)) | inr last ↦ inr last ]
      ])),
    )

    pub grows_all : (n end : ℕ) (old now : List A) → n ≡ end → Grows old now (IsOfBelow Is n) → Grows old now (IsOfBelow Is end)
    grows_all n end old now is h = subst (λ n. Grows old now (IsOfBelow Is n)) is h

-- the turn of an element that stands in a list
pub grows_at : {A B : Type 0} (Is : A → B → Type 0) (xs : List A) (n : ℕ) (x : A) → slice_get xs n ≡ Some x → (old new : List B) → Grows old new (Is x) → Grows old new (IsOfAt Is xs n)
grows_at Is xs n x at old new h =
    grows_by old new (Is x) (IsOfAt Is xs n) (λ y is. (x, at, is)) (λ y is. subst (λ z. Is z y) (same_Some is.0 x (sym is.1 ∙ at)) is.2) h

-- that of an element and its number
pub grows_at_number : {A B : Type 0} (Is : ℕ → A → B → Type 0) (xs : List A) (n : ℕ) (x : A) → slice_get xs n ≡ Some x → (old new : List B) → Grows old new (Is n x) → Grows old new (λ y. (z : A) × (slice_get xs n ≡ Some z) × Is n z y)
grows_at_number Is xs n x at old new h = grows_at (Is n) xs n x at old new h
