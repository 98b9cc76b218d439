-- Pairs of places in ascending order, row by row.
use Rattle.std.proofs.Common.{◌≡◌, ◌<◌, ◌≤◌, ◌+◌, ◌-◌, ◌↔◌, ◌++◌, ◌∷◌, [], ℕ, zero, suc, true, All, Contains, List, Some, length, length-append, get_or, map, refl, sym, ap, ◌∙◌, subst, ⊎_elim, inl, inr, arith}
use Rattle.std.specs.List.{flat_map, range_with_len, slice_get}
use Rattle.std.specs.List.Sorted.{IsStrictlyIncreasing}
use Rattle.std.proofs.lemmas.Bool.{cases_lt}
use Rattle.std.proofs.lemmas.List.{get_or-append_right, get_or-map, get_or_append_left, length-map}
use Rattle.std.proofs.lemmas.List.Concat.{flat_map-append}
use Rattle.std.proofs.lemmas.List.Elements.{All-contains_itself, All-weaker, Contains-append_cases}
use Rattle.std.proofs.lemmas.List.FromFn.{get_or-range_with_len, length-range_with_len}
use Rattle.std.proofs.lemmas.List.Kept.{AllPairs-from_increasing}
use Rattle.std.proofs.lemmas.Option.{get_or_from_slice_get, slice_get-get_or, slice_get_within}
use Rattle.lk_links.proofs.ListLemmas.{contained}
use Rattle.lk_order.proofs.TextLemmas.{range_more}
use Rattle.lk_order.specs.Ranking.{IsPairWithin}
use Rattle.lk_order.specs.Table.{AreAscending, StandsBefore, pair_of}
use Rattle.lk_order.specs.declared.order.Pair.{Pair}
use Rattle.lk_rise.proofs.ListLemmas.{in_flat_map, in_map}
use Rattle.lk_sets.proofs.Members.{Contains-from_has_id, has_id-from_Contains}
use Rattle.lk_sets.specs.Rows.{IsSquare, Rows, has, row_of}

-- two lists, each pair of the one before those of the other
ascending_append : (xs ys : List Pair) → AreAscending xs → AreAscending ys → ((a b : Pair) → Contains xs a → Contains ys b → StandsBefore a b) → AreAscending (xs ++ ys)
ascending_append xs ys up ups apart i j a b at at' less =
    elim (cases_lt j (length xs)) [
      | inl early ↦ up i j a b (in_first i a (omega (arith, less, early)) at) (in_first j b early at') less
      | inr late ↦ elim (cases_lt i (length xs)) [
        | inl early ↦ apart a b (contained xs i a (in_first i a early at)) (contained ys (j - length xs) b (in_second j b late at'))
        | inr behind ↦ ups (i - length xs) (j - length xs) a b (in_second i a behind at) (in_second j b late at') (omega (arith, less, behind, late))
      ]
    ]
  where
    in_first : (k : ℕ) (x : Pair) → k < length xs → slice_get (xs ++ ys) k ≡ Some x → slice_get xs k ≡ Some x
    in_first k x within at = slice_get-get_or xs k x within ∙ ap Some (sym (get_or_append_left xs ys x k within) ∙ get_or_from_slice_get (xs ++ ys) k x x at)

    in_second : (k : ℕ) (x : Pair) → length xs ≤ k → slice_get (xs ++ ys) k ≡ Some x → slice_get ys (k - length xs) ≡ Some x
    in_second k x past at =
        let within : k < length (xs ++ ys) = slice_get_within (xs ++ ys) k x at in
        slice_get-get_or ys (k - length xs) x (omega (arith, within, past, length-append xs ys)) ∙ ap Some (sym (get_or-append_right xs ys (length xs) k x refl past) ∙ get_or_from_slice_get (xs ++ ys) k x x at)

abbrev pub pairs_in : Rows → ℕ → List Pair
pairs_in rows q = map (pair_of q) (row_of rows q)

-- the pairs of one row
row_ascending : (q : ℕ) (ids : List ℕ) → IsStrictlyIncreasing ids → AreAscending (map (pair_of q) ids)
row_ascending q ids up i j a b at at' less =
    let within : j < length ids = omega (arith, slice_get_within (map (pair_of q) ids) j b at', length-map ids (pair_of q)) in
    let first : pair_of q (get_or ids i 0) ≡ a = sym (get_or-map (pair_of q) ids i 0 a (omega (arith, less, within))) ∙ get_or_from_slice_get (map (pair_of q) ids) i a a at in
    let second : pair_of q (get_or ids j 0) ≡ b = sym (get_or-map (pair_of q) ids j 0 b within) ∙ get_or_from_slice_get (map (pair_of q) ids) j b b at' in
    subst (StandsBefore a) second (subst (λ x. StandsBefore x (pair_of q (get_or ids j 0))) first (inr (refl, AllPairs-from_increasing ids up i j 0 less within)))

module _ (rows : Rows) (square : IsSquare rows) where
  in_row : (q : ℕ) (pair : Pair) → Contains (pairs_in rows q) pair ↔ ((pair.held ≡ q) × (has rows pair.held pair.wanted ≡ true))
  unfolding has
  in_row q pair = (
    λ there.
        let found = (in_map (pair_of q) (row_of rows q) pair).0 there in
        let held : pair.held ≡ q = sym (ap (λ (p : Pair). p.held) found.2) in
        let wanted : found.0 ≡ pair.wanted = ap (λ (p : Pair). p.wanted) found.2 in
        (held, subst (λ h. has rows h pair.wanted ≡ true) (sym held) (subst (λ w. has rows q w ≡ true) wanted (has_id-from_Contains (row_of rows q) found.0 found.1))),
    λ is.
        (in_map (pair_of q) (row_of rows q) pair).1
        (pair.wanted, Contains-from_has_id (row_of rows q) pair.wanted (subst (λ h. has rows h pair.wanted ≡ true) is.0 is.1), ap (λ h. pair_of h pair.wanted) (sym is.0)),
  )

  abbrev pub pairs_below : ℕ → List Pair
  pairs_below n = flat_map (pairs_in rows) (range_with_len 0 n)

  pub below_more : (n : ℕ) → pairs_below (n + 1) ≡ pairs_below n ++ pairs_in rows n
  below_more n = ap (flat_map (pairs_in rows)) (range_more 0 n ∙ ap (λ k. range_with_len 0 n ++ k ∷ []) (omega arith)) ∙ flat_map-append (pairs_in rows) (range_with_len 0 n) (n ∷ []) ∙ ap (λ ps. pairs_below n ++ ps) (append_none (pairs_in rows n))
    where
      append_none : (ps : List Pair) → ps ++ [] ≡ ps
      append_none [] = refl
      append_none (p ∷ ps) = ap (λ qs. p ∷ qs) (append_none ps)

  below_there : (n : ℕ) (pair : Pair) → Contains (pairs_below n) pair → pair.held < n
  below_there zero pair there = absurd (omega (arith, there.1))
  below_there (suc n) pair there =
      let next : suc n ≡ n + 1 = omega arith in
      let split = subst (λ ps. Contains ps pair) (ap pairs_below next ∙ below_more n) there in
      ⊎_elim (λ earlier. let less = below_there n pair earlier in omega (arith, less)) (λ now. omega (arith, ((in_row n pair).0 now).0)) (Contains-append_cases (pairs_below n) (pairs_in rows n) pair split)

  pub below_ascending : (n : ℕ) → AreAscending (pairs_below n)
  below_ascending zero = λ i j a b at at' less. absurd (omega (arith, slice_get_within {A = Pair} [] i a at))
  below_ascending (suc n) =
      let next : suc n ≡ n + 1 = omega arith in
      subst AreAscending (sym (ap pairs_below next ∙ below_more n))
      (ascending_append (pairs_below n) (pairs_in rows n) (below_ascending n) (row_ascending n (row_of rows n) (square.sorted n))
      (λ a b there there'. inl (let less = below_there n a there in let is = ((in_row n b).0 there').0 in omega (arith, less, is))))

  -- the pairs of all rows are those of the relation
  pub below_all : (q r : ℕ) → Contains (pairs_below rows.size) (pair_of q r) ↔ (has rows q r ≡ true)
  below_all q r = (
    λ there.
        let found = (in_flat_map (pairs_in rows) (range_with_len 0 rows.size) (pair_of q r)).0 there in
        ((in_row found.0 (pair_of q r)).0 found.2).1,
    λ is.
        (in_flat_map (pairs_in rows) (range_with_len 0 rows.size) (pair_of q r)).1
        (q, in_range rows.size q (square.within q r is).0, (in_row q (pair_of q r)).1 (refl, is)),
  )
    where
      in_range : (n k : ℕ) → k < n → Contains (range_with_len 0 n) k
      in_range n k less = (k, omega (arith, less, length-range_with_len 0 n), get_or-range_with_len 0 n k k less ∙ omega arith)

  pub below_within : All (IsPairWithin rows.size) (pairs_below rows.size)
  below_within =
      All-weaker (Contains (pairs_below rows.size)) (IsPairWithin rows.size) (λ pair there. square.within pair.held pair.wanted ((below_all pair.held pair.wanted).0 there)) (pairs_below rows.size) (All-contains_itself (pairs_below rows.size))
