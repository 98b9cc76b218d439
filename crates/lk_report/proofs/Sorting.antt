-- A stable sort gives the list in order.
use Rattle.std.proofs.Common.{◌≡◌, ◌∙◌, inl, inr, ℕ, suc, ◌+◌, ◌<◌, Bool, true, false, not, List, [], ◌∷◌, refl, sym, ap, subst, length, get_or, drop, cond, arith}
use Rattle.std.proofs.lemmas.Bool.{and_from, and_parts, both_ways, cases_Bool, cond-false, cond-true, false_from_ne_true, not-true, not_from_false}
use Rattle.std.proofs.lemmas.List.Sorted.{sorted_far}
use Rattle.std.specs.Cmp.{IsStrictWeakOrder}
use Rattle.std.specs.List.{filter, AllByRecursion}
use Rattle.std.specs.List.Sorted.{IsSortedBy, IsStableBy, ties}
use Rattle.lk_report.specs.Order.{put_by, sort_by}

module _ {X : Type 0} (p : X → Bool) where
  yes : (x : X) (xs : List X) → p x ≡ true → filter p (x ∷ xs) ≡ x ∷ filter p xs
  yes x xs h = cond-true (p x) (x ∷ filter p xs) (filter p xs) h

  no : (x : X) (xs : List X) → p x ≡ false → filter p (x ∷ xs) ≡ filter p xs
  no x xs h = cond-false (p x) (x ∷ filter p xs) (filter p xs) h

  -- lists that pass alike do so behind one more element
  behind : (x : X) (xs ys : List X) → filter p xs ≡ filter p ys → filter p (x ∷ xs) ≡ filter p (x ∷ ys)
  behind x xs ys h = ap (λ l. cond (p x) (x ∷ l) l) h

  same_behind : (x : X) (xs ys : List X) → filter p (x ∷ xs) ≡ filter p (x ∷ ys) → filter p xs ≡ filter p ys
  same_behind x xs ys h = elim (cases_Bool (p x)) [
    | inl passes ↦ ap (λ l. drop 1 l) (sym (yes x xs passes) ∙ h ∙ yes x ys passes)
    | inr fails ↦ sym (no x xs fails) ∙ h ∙ no x ys fails
  ]

  -- what passes first is in the list
  first_is : (Q : X → Type 0) (xs rest : List X) (y : X) → filter p xs ≡ y ∷ rest → AllByRecursion Q xs → Q y
  first_is Q [] rest y h all = absurd (omega (arith, ap length h))
  first_is Q (x ∷ xs) rest y h all = elim (cases_Bool (p x)) [
    | inl passes ↦ subst Q (ap (λ l. get_or l 0 y) (sym (yes x xs passes) ∙ h)) all.0
    | inr fails ↦ first_is Q xs rest y (sym (no x xs fails) ∙ h) all.1
  ]

module _ {X : Type 0} (lt : X → X → Bool) (o : IsStrictWeakOrder lt) where
  -- none of these stands before x
  abbrev NoneBefore : X → List X → Type 0
  NoneBefore x ys = AllByRecursion (λ y. lt y x ≡ false) ys

  abbrev IsUp : List X → Type 0
  IsUp [] = Unit {0}
  IsUp (x ∷ xs) = NoneBefore x xs × IsUp xs

  -- nothing stands before itself
  itself : (x : X) → lt x x ≡ false
  itself x = false_from_ne_true (lt x x) (λ h. both_ways (lt x x) (o.one_way x x h) h)

  tie : (x y : X) → lt x y ≡ false → lt y x ≡ false → ties lt x y ≡ true
  tie x y h k = and_from (not (lt x y)) (not (lt y x)) (not_from_false (lt x y) h) (not_from_false (lt y x) k)

  tie_parts : (x y : X) → ties lt x y ≡ true → (lt x y ≡ false) × (lt y x ≡ false)
  tie_parts x y h = let both = and_parts (not (lt x y)) (not (lt y x)) h in (not-true (lt x y) both.0, not-true (lt y x) both.1)

  -- one that stands before another may change places with it, for those that tie
  change : (x y z : X) (zs : List X) → lt z y ≡ true → filter (ties lt x) (z ∷ (y ∷ zs)) ≡ filter (ties lt x) (y ∷ (z ∷ zs))
  change x y z zs before =
      let p = ties lt x in
      elim (cases_Bool (p y)) [
        | inl y_ties ↦ elim (cases_Bool (p z)) [
          | inl z_ties ↦ absurd (both_ways (lt z y) (o.chain z x y (tie_parts x z z_ties).1 (tie_parts x y y_ties).0) before)
          | inr z_not ↦ no p z (y ∷ zs) z_not ∙ behind p y zs (z ∷ zs) (sym (no p z zs z_not))
        ]
        | inr y_not ↦ behind p z (y ∷ zs) zs (no p y zs y_not) ∙ sym (no p y (z ∷ zs) y_not)
      ]

  stable_put : (x y : X) (zs : List X) → filter (ties lt x) (put_by lt y zs) ≡ filter (ties lt x) (y ∷ zs)
  stable_put x y [] = refl
  stable_put x y (z ∷ zs) = elim (cases_Bool (lt z y)) [
    | inl before ↦ ap (filter (ties lt x)) (cond-true (lt z y) (z ∷ put_by lt y zs) (y ∷ (z ∷ zs)) before)
        ∙ behind (ties lt x) z (put_by lt y zs) (y ∷ zs) (stable_put x y zs) ∙ change x y z zs before
    | inr after ↦ ap (filter (ties lt x)) (cond-false (lt z y) (z ∷ put_by lt y zs) (y ∷ (z ∷ zs)) after)
  ]

  stable_sort : (x : X) (xs : List X) → filter (ties lt x) (sort_by lt xs) ≡ filter (ties lt x) xs
  stable_sort x [] = refl
  stable_sort x (y ∷ ys) = stable_put x y (sort_by lt ys) ∙ behind (ties lt x) y (sort_by lt ys) ys (stable_sort x ys)

  none_chain : (y z : X) (zs : List X) → lt z y ≡ false → NoneBefore z zs → NoneBefore y zs
  none_chain y z [] h all = tt
  none_chain y z (w ∷ ws) h all = (o.chain w z y all.0 h, none_chain y z ws h all.1)

  none_put : (z y : X) (zs : List X) → lt y z ≡ false → NoneBefore z zs → NoneBefore z (put_by lt y zs)
  none_put z y [] h all = (h, tt)
  none_put z y (w ∷ ws) h all = elim (cases_Bool (lt w y)) [
    | inl before ↦ subst (NoneBefore z) (sym (cond-true (lt w y) (w ∷ put_by lt y ws) (y ∷ (w ∷ ws)) before)) (all.0, none_put z y ws h all.1)
    | inr after ↦ subst (NoneBefore z) (sym (cond-false (lt w y) (w ∷ put_by lt y ws) (y ∷ (w ∷ ws)) after)) (h, all)
  ]

  up_put : (y : X) (zs : List X) → IsUp zs → IsUp (put_by lt y zs)
  up_put y [] up = (tt, tt)
  up_put y (z ∷ zs) up = elim (cases_Bool (lt z y)) [
    | inl before ↦ subst IsUp (sym (cond-true (lt z y) (z ∷ put_by lt y zs) (y ∷ (z ∷ zs)) before)) (none_put z y zs (o.one_way z y before) up.0, up_put y zs up.1)
    | inr after ↦ subst IsUp (sym (cond-false (lt z y) (z ∷ put_by lt y zs) (y ∷ (z ∷ zs)) after)) ((after, none_chain y z zs after up.0), up)
  ]

  up_sort : (xs : List X) → IsUp (sort_by lt xs)
  up_sort [] = tt
  up_sort (x ∷ xs) = up_put x (sort_by lt xs) (up_sort xs)

  none_from : (x : X) (xs : List X) → ((j : ℕ) → j < length xs → lt (get_or xs j x) x ≡ false) → NoneBefore x xs
  none_from x [] each = tt
  none_from x (y ∷ ys) each = (each 0 (omega arith), none_from x ys (λ j less. each (suc j) (omega (arith, less))))

  one_on : (k : ℕ) → suc k + 1 ≡ suc (k + 1)
  one_on k = omega arith

  up_from : (xs : List X) → IsSortedBy lt xs → IsUp xs
  up_from [] sorted = tt
  up_from (x ∷ xs) sorted =
      (none_from x xs (λ j less. sorted_far lt o (x ∷ xs) sorted 0 (suc j) x (omega arith) (omega (arith, less))), up_from xs (λ k d low high. subst (λ m. lt (get_or (x ∷ xs) m d) (get_or xs k d) ≡ false) (one_on k) (sorted (suc k) d (omega arith) (omega (arith, high)))))

  -- lists in order that agree at all that tie are one
  one_order : (ys zs : List X) → IsUp ys → IsUp zs → ((x : X) → filter (ties lt x) ys ≡ filter (ties lt x) zs) → ys ≡ zs
  one_order [] [] up down same = refl
  one_order [] (z ∷ zs) up down same = absurd (omega (arith, ap length (same z ∙ yes (ties lt z) z zs (tie z z (itself z) (itself z)))))
  one_order (y ∷ ys) [] up down same = absurd (omega (arith, ap length (sym (same y) ∙ yes (ties lt y) y ys (tie y y (itself y) (itself y)))))
  one_order (y ∷ ys) (z ∷ zs) up down same =
      let at_y = yes (ties lt y) y ys (tie y y (itself y) (itself y)) in
      let at_z = yes (ties lt z) z zs (tie z z (itself z) (itself z)) in
      let y_after = first_is (ties lt y) (λ w. lt w z ≡ false) (z ∷ zs) (filter (ties lt y) ys) y (sym (same y) ∙ at_y) (itself z, down.0) in
      let z_after = first_is (ties lt z) (λ w. lt w y ≡ false) (y ∷ ys) (filter (ties lt z) zs) z (same z ∙ at_z) (itself y, up.0) in
      let first : y ≡ z = ap (λ l. get_or l 0 y) (sym at_y ∙ same y ∙ yes (ties lt y) z zs (tie y z y_after z_after)) in
      let rest = one_order ys zs up.1 down.1 (λ x. same_behind (ties lt x) y ys zs (subst (λ w. filter (ties lt x) (y ∷ ys) ≡ filter (ties lt x) (w ∷ zs)) (sym first) (same x))) in
      ap (λ l. y ∷ l) rest ∙ ap (λ w. w ∷ zs) first

  pub is_sorted : (xs ys : List X) → IsSortedBy lt ys → IsStableBy lt xs ys → ys ≡ sort_by lt xs
  is_sorted xs ys sorted stable = one_order ys (sort_by lt xs) (up_from ys sorted) (up_sort xs) (λ x. stable x ∙ sym (stable_sort x xs))
