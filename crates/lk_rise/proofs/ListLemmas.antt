-- What lists have that are filtered, mapped and joined.
use Rattle.std.proofs.Common.{◌≡◌, ◌<◌, ◌+◌, ◌++◌, ◌||◌, ◌⊎◌, ◌↔◌, ℕ, Bool, true, false, cond, List, [], ◌∷◌, length, get_or, take, map, Contains, All, refl, sym, ap, ◌∙◌, subst, ⊎_elim, inl, inr, arith}
use Rattle.std.specs.List.{filter, flat_map, list_any}
use Rattle.lk_facts.specs.Origins.{IsSetBelow}
use Rattle.lk_sets.specs.Ids.{has_id, IsSetOf}
use Rattle.lk_sets.proofs.Rising.{has_id-append}
use Rattle.lk_links.proofs.SetLemmas.{All-from_has_id, All-has_id}
use Rattle.std.proofs.lemmas.Bool.{false≢true, or_cases, or_left, or_right}
use Rattle.std.proofs.lemmas.List.{take_more}
use Rattle.std.proofs.lemmas.List.Elements.{Contains-append_cases, Contains-append_left, Contains-append_right, Contains-push, Contains-push_cases}

pub none_there : {X : Type 0} (x : X) → Contains [] x → ⊥
none_there x there = omega (arith, there.1)

pub one_there : {X : Type 0} (y x : X) → Contains (y ∷ []) x → y ≡ x
one_there y x there = elim (Contains-push_cases [] y x there) [ inl none ↦ absurd (none_there x none) | inr same ↦ same ]

pub head_there : {X : Type 0} (x : X) (xs : List X) → Contains (x ∷ xs) x
head_there x xs = Contains-append_left (x ∷ []) xs x (Contains-push [] x)

pub tail_there : {X : Type 0} (y : X) (xs : List X) (x : X) → Contains xs x → Contains (y ∷ xs) x
tail_there y xs x there = Contains-append_right (y ∷ []) xs x there

pub head_or_tail : {X : Type 0} (y : X) (xs : List X) (x : X) → Contains (y ∷ xs) x → (y ≡ x) ⊎ Contains xs x
head_or_tail y xs x there = elim (Contains-append_cases (y ∷ []) xs x there) [ inl here ↦ inl (one_there y x here) | inr later ↦ inr later ]

-- a filtered list has what passes
pub in_filter : {X : Type 0} (p : X → Bool) (xs : List X) (x : X) → Contains (filter p xs) x ↔ (Contains xs x × (p x ≡ true))
in_filter p [] x = (λ there. absurd (none_there x there), λ both. absurd (none_there x both.0))
in_filter p (y ∷ ys) x = at_test (p y) refl (in_filter p ys x)
  where
    at_test : (b : Bool) → p y ≡ b → Contains (filter p ys) x ↔ (Contains ys x × (p x ≡ true)) → Contains (cond b (y ∷ filter p ys) (filter p ys)) x ↔ (Contains (y ∷ ys) x × (p x ≡ true))
    at_test true passes rest = (
      λ there.
          elim (head_or_tail y (filter p ys) x there) [
            | inl same ↦ (subst (λ z. Contains (y ∷ ys) z) same (head_there y ys), subst (λ z. p z ≡ true) same passes)
            | inr later ↦ let found = rest.0 later in (tail_there y ys x found.0, found.1)
          ],
      λ both.
          elim (head_or_tail y ys x both.0) [
            | inl same ↦ subst (λ z. Contains (y ∷ filter p ys) z) same (head_there y (filter p ys))
            | inr later ↦ tail_there y (filter p ys) x (rest.1 (later, both.1))
          ],
    )
    at_test false fails rest = (
      λ there. let found = rest.0 there in (tail_there y ys x found.0, found.1),
      λ both.
          elim (head_or_tail y ys x both.0) [
            | inl same ↦ absurd (false≢true (sym fails ∙ subst (λ z. p z ≡ true) (sym same) both.1))
            | inr later ↦ rest.1 (later, both.1)
          ],
    )

-- a mapped list has what comes of each element
pub in_map : {X Y : Type 0} (f : X → Y) (xs : List X) (y : Y) → Contains (map f xs) y ↔ ((x : X) × Contains xs x × (f x ≡ y))
in_map f [] y = (λ there. absurd (none_there y there), λ found. absurd (none_there found.0 found.1))
in_map f (x ∷ xs) y = (
  λ there.
      elim (head_or_tail (f x) (map f xs) y there) [
        | inl same ↦ (x, head_there x xs, same)
        | inr later ↦ let found = (in_map f xs y).0 later in (found.0, tail_there x xs found.0 found.1, found.2)
      ],
  λ found.
      elim (head_or_tail x xs found.0 found.1) [
        | inl same ↦ subst (λ z. Contains (f x ∷ map f xs) z) (ap f same ∙ found.2) (head_there (f x) (map f xs))
        | inr later ↦ tail_there (f x) (map f xs) y ((in_map f xs y).1 (found.0, later, found.2))
      ],
)

-- joined lists have what one of them has
pub in_flat_map : {X Y : Type 0} (f : X → List Y) (xs : List X) (y : Y) → Contains (flat_map f xs) y ↔ ((x : X) × Contains xs x × Contains (f x) y)
in_flat_map f [] y = (λ there. absurd (none_there y there), λ found. absurd (none_there found.0 found.1))
in_flat_map f (x ∷ xs) y = (
  λ there.
      elim (Contains-append_cases (f x) (flat_map f xs) y there) [
        | inl here ↦ (x, head_there x xs, here)
        | inr later ↦ let found = (in_flat_map f xs y).0 later in (found.0, tail_there x xs found.0 found.1, found.2)
      ],
  λ found.
      elim (head_or_tail x xs found.0 found.1) [
        | inl same ↦ Contains-append_left (f x) (flat_map f xs) y (subst (λ z. Contains (f z) y) (sym same) found.2)
        | inr later ↦ Contains-append_right (f x) (flat_map f xs) y ((in_flat_map f xs y).1 (found.0, later, found.2))
      ],
)

-- some element of a list passes a test
pub some_passes : {X : Type 0} (p : X → Bool) (xs : List X) → list_any p xs ≡ true → (x : X) × Contains xs x × (p x ≡ true)
some_passes p [] some = absurd (false≢true some)
some_passes p (y ∷ ys) some =
    elim (or_cases (p y) (list_any p ys) some) [
      | inl here ↦ (y, head_there y ys, here)
      | inr later ↦ let found = some_passes p ys later in (found.0, tail_there y ys found.0 found.1, found.2)
    ]

pub passes_there : {X : Type 0} (p : X → Bool) (xs : List X) (x : X) → Contains xs x → p x ≡ true → list_any p xs ≡ true
passes_there p [] x there passes = absurd (none_there x there)
passes_there p (y ∷ ys) x there passes =
    elim (head_or_tail y ys x there) [
      | inl same ↦ or_left _ _ (subst (λ z. p z ≡ true) (sym same) passes)
      | inr later ↦ or_right (p y) _ (passes_there p ys x later passes)
    ]

-- a set of two lists' numbers
pub set_of_both : (P Q : ℕ → Type 0) (first second list set : List ℕ) → ((x : ℕ) → (has_id first x ≡ true) ↔ P x) → ((x : ℕ) → (has_id second x ≡ true) ↔ Q x) → list ≡ first ++ second → IsSetOf (has_id list) set →
    (x : ℕ) → (has_id set x ≡ true) ↔ (P x ⊎ Q x)
set_of_both P Q first second list set one other is made x =
    let same : has_id set x ≡ (has_id first x || has_id second x) = made.members x ∙ ap (λ xs. has_id xs x) is ∙ has_id-append first second x in (
      λ there. ⊎_elim (λ here. inl ((one x).0 here)) (λ here. inr ((other x).0 here)) (or_cases (has_id first x) (has_id second x) (sym same ∙ there)),
      λ either. same ∙ ⊎_elim (λ p. or_left _ _ ((one x).1 p)) (λ q. or_right (has_id first x) _ ((other x).1 q)) either,
    )

-- a set of numbers of a list whose numbers are below n
pub set_in_range : (n : ℕ) (list set : List ℕ) → All (λ x. x < n) list → IsSetOf (has_id list) set → IsSetBelow n set
set_in_range n list set below made = record {
  sorted = made.sorted;
  below = All-from_has_id (λ x. x < n) set (λ x there. All-has_id (λ y. y < n) list x below (sym (made.members x) ∙ there));
}

-- what a list has, one element more
pub there_more : {X : Type 0} (xs : List X) (k : ℕ) (x y : X) → k < length xs → x ≡ get_or xs k x → Contains (take (k + 1) xs) y ↔ (Contains (take k xs) y ⊎ (y ≡ x))
there_more xs k x y within is =
    let more = take_more xs k x within in (
      λ there. ⊎_elim (λ before. inl before) (λ same. inr (sym (is ∙ same))) (Contains-push_cases (take k xs) (get_or xs k x) y (subst (λ zs. Contains zs y) more there)),
      λ either.
          subst (λ zs. Contains zs y) (sym more)
          (elim either [
            | inl before ↦ Contains-append_left (take k xs) (get_or xs k x ∷ []) y before
            | inr same ↦ subst (λ z. Contains (take k xs ++ get_or xs k x ∷ []) z) (sym (same ∙ is)) (Contains-push (take k xs) (get_or xs k x))
          ]),
    )

-- what a list has behind which others were put
pub there_or : {X : Type 0} (Q : X → Type 0) (old mine new : List X) → new ≡ old ++ mine → ((x : X) → Contains mine x ↔ Q x) → (x : X) → Contains new x ↔ (Contains old x ⊎ Q x)
there_or Q old mine new is mean x = (
  λ there. ⊎_elim (λ before. inl before) (λ now. inr ((mean x).0 now)) (Contains-append_cases old mine x (subst (λ xs. Contains xs x) is there)),
  λ either. subst (λ xs. Contains xs x) (sym is) (⊎_elim (λ before. Contains-append_left old mine x before) (λ now. Contains-append_right old mine x ((mean x).1 now)) either),
)
