-- Elements in the order of a key, such as edges in that of their sites: those of one key stand together.
use Rattle.std.proofs.Common.{ℕ, ◌+◌, ◌-◌, ◌<◌, ◌≤◌, ◌≡◌, ◌↔◌, Bool, true, false, ltb, leb, List, length, get_or, take, drop, Contains, refl, sym, ap, ◌∙◌, subst, inl, inr, arith}
use Rattle.std.specs.List.{AllWithin}
use Rattle.std.specs.List.Sorted.{IsPartitionPoint}
use Rattle.std.proofs.lemmas.Bool.{cases_lt, leb-true, leb-false, ltb-true, ltb-false}
use Rattle.std.proofs.lemmas.List.{get_or-drop, get_or-take, length-drop, length-take}

module _ {X : Type 0} (key : X → ℕ) (xs : List X) (wanted first count : ℕ) where
  -- the elements from the first one on
  abbrev pub rest_of : List X
  rest_of = take (length xs - first) (drop first xs)

  rest_at : (k : ℕ) (d : X) → k < length xs - first → get_or rest_of k d ≡ get_or xs (first + k) d
  rest_at k d below = get_or-take (length xs - first) (drop first xs) k d below ∙ get_or-drop first xs k d

  module _ (bound : first ≤ length xs) (within : count ≤ length rest_of) (start : IsPartitionPoint (λ y. ltb (key y) wanted ≡ true) (λ y. ltb (key y) wanted ≡ false) xs first) (end : IsPartitionPoint (λ y. leb (key y) wanted ≡ true) (λ y. leb (key y) wanted ≡ false) rest_of count) where
    short : count ≤ length xs - first
    short = omega (arith, within, length-take (length xs - first) (drop first xs))

    of_it : (x : X) → Contains (take count rest_of) x → Contains xs x × (key x ≡ wanted)
    of_it x found =
        let k = found.0 in
        let below : k < count = omega (arith, found.1, length-take count rest_of) in
        let at : get_or rest_of k x ≡ x = sym (get_or-take count rest_of k x below) ∙ found.2 in
        let here : get_or xs (first + k) x ≡ x = sym (rest_at k x (omega (arith, short))) ∙ at in
        let not_before : ltb (key x) wanted ≡ false = subst (λ (y : X). ltb (key y) wanted ≡ false) here (start.1 (first + k) x (omega arith) (omega (arith, short))) in
        let not_behind : leb (key x) wanted ≡ true = subst (λ (y : X). leb (key y) wanted ≡ true) at (end.0 k x (omega arith) below) in
        ((first + k, omega (arith, short), here), omega (arith, ltb-false (key x) wanted not_before, leb-true (key x) wanted not_behind))

    is_among : (x : X) → Contains xs x × (key x ≡ wanted) → Contains (take count rest_of) x
    is_among x found =
        let k = found.0.0 in
        let at : get_or xs k x ≡ x = found.0.2 in
        let behind : first ≤ k =
        elim (cases_lt k first) [
          | inl before ↦ omega (arith, found.1, ltb-true (key x) wanted (subst (λ (y : X). ltb (key y) wanted ≡ true) at (start.0 k x (omega arith) before)))
          | inr later ↦ later
        ] in
        let j = k - first in
        let here : get_or rest_of j x ≡ x = rest_at j x (omega (arith, found.0.1)) ∙ (ap (λ i. get_or xs i x) (omega arith) ∙ at) in
        let below : j < count =
        elim (cases_lt j count) [
          | inl before ↦ before
          | inr past ↦
              let long : j < length rest_of = omega (arith, found.0.1, length-take (length xs - first) (drop first xs), length-drop first xs) in
              omega (arith, found.1, leb-false (key x) wanted (subst (λ (y : X). leb (key y) wanted ≡ false) here (end.1 j x past long)))
        ] in
        (j, omega (arith, below, within, length-take count rest_of), get_or-take count rest_of j x below ∙ here)

    pub of_one_key : (x : X) → Contains (take count rest_of) x ↔ (Contains xs x × (key x ≡ wanted))
    of_one_key x = (of_it x, is_among x)
