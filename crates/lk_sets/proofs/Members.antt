-- Which numbers a list has.
use Rattle.std.proofs.Common.{ℕ, ◌+◌, ◌<◌, ◌≤◌, ◌≡◌, ◌&&◌, ltb, ap, ◌∙◌, Bool, true, false, eqb, List, length, get_or, Result, Ok, Err, MatchResult, is_ok, Contains, sym, subst, inl, inr, arith}
use Rattle.std.specs.Ordering.{nat_cmp}
use Rattle.std.specs.List.{dedup, filter, range_with_len}
use Rattle.std.specs.List.Sorted.{IsStrictlyIncreasing, IsBinarySearchResult}
use Rattle.std.proofs.lemmas.Bool.{cases_eq, cases_lt, eqb-true, eq-eqb, ne_eqb, lt-ltb, ltb-true}
use Rattle.std.proofs.lemmas.Bool.Decides.{same_from_decides}
use Rattle.std.proofs.lemmas.List.Elements.{All-from_get_or}
use Rattle.std.proofs.lemmas.List.Folds.{Any-from_list_any, list_any_at, list_any_none}
use Rattle.std.proofs.lemmas.List.Kept.{AllPairs-from_increasing, Contains-dedup_nat, Contains-from_dedup}
use Rattle.std.proofs.lemmas.List.Sorted.{searched}
use Rattle.std.proofs.lemmas.List.FromFn.{length-range_with_len, get_or-range_with_len}
use Rattle.std.proofs.lemmas.Map.Views.{any-filter_same}
use Rattle.lk_sets.specs.Ids.{has_id}

pub has_id-from_Contains : (ids : List ℕ) (x : ℕ) → Contains ids x → has_id ids x ≡ true
has_id-from_Contains ids x found = list_any_at (λ y. eqb y x) ids found.0 x found.1 (eq-eqb _ x found.2)

pub Contains-from_has_id : (ids : List ℕ) (x : ℕ) → has_id ids x ≡ true → Contains ids x
Contains-from_has_id ids x h =
    let found = Any-from_list_any (λ y. eqb y x) ids h in
    let same : found.1 ≡ x = eqb-true found.1 x found.4 in
    (found.0, found.2, subst (λ y. get_or ids found.0 y ≡ y) same found.3)

-- two answers that are true alike are one
pub same_answers : (a b : Bool) → (a ≡ true → b ≡ true) → (b ≡ true → a ≡ true) → a ≡ b
same_answers a b there back = same_from_decides {P = a ≡ true} a b (λ h. h, λ h. h) (back, there)

pub has_id-dedup : (ids : List ℕ) (x : ℕ) → has_id (dedup eqb ids) x ≡ has_id ids x
has_id-dedup ids x =
    same_answers _ _
    (λ h. has_id-from_Contains ids x (Contains-from_dedup eqb ids x (Contains-from_has_id (dedup eqb ids) x h)))
    (λ h. has_id-from_Contains (dedup eqb ids) x (Contains-dedup_nat ids x (Contains-from_has_id ids x h)))

rising : (ids : List ℕ) → IsStrictlyIncreasing ids → (i j : ℕ) → i ≤ j → j < length ids → get_or ids i 0 ≤ get_or ids j 0
rising ids up i j le lt =
    elim (cases_eq i j) [
      | inl same ↦ subst (λ k. get_or ids i 0 ≤ get_or ids k 0) same (omega arith)
      | inr other ↦ omega (arith, AllPairs-from_increasing ids up i j 0 (omega arith) lt)
    ]

none_found : (ids : List ℕ) (x i : ℕ) → ((k : ℕ) → k < i → get_or ids k 0 < x) → ((k : ℕ) → i ≤ k → k < length ids → x < get_or ids k 0) → has_id ids x ≡ false
none_found ids x i below above =
    list_any_none (λ y. eqb y x) ids (All-from_get_or (λ y. eqb y x ≡ false) ids 0 (λ k lt. ne_eqb _ x (λ same.
    elim (cases_lt k i) [
      | inl before ↦ omega (arith, below k before)
      | inr behind ↦ omega (arith, above k behind lt)
    ])))

-- a binary search over ascending numbers finds just those that are there
pub is_ok-searched : (ids : List ℕ) (x : ℕ) (r : Result ℕ ℕ) → IsStrictlyIncreasing ids → IsBinarySearchResult (λ y. nat_cmp y x) ids r → is_ok r ≡ has_id ids x
is_ok-searched ids x r up found = at_result r (searched ids x r found (rising ids up))
  where
    at_result : (r : Result ℕ ℕ) → MatchResult r (λ i. (i < length ids) × (get_or ids i 0 ≡ x)) (λ i. (i ≤ length ids) × ((k : ℕ) → k < i → get_or ids k 0 < x) × ((k : ℕ) → i ≤ k → k < length ids → x < get_or ids k 0)) → is_ok r ≡ has_id ids x
    at_result (Ok i) h = sym (list_any_at (λ y. eqb y x) ids i 0 h.0 (eq-eqb _ x h.1))
    at_result (Err i) h = sym (none_found ids x i h.1 h.2)

-- the numbers below n
pub has_id-range : (n x : ℕ) → has_id (range_with_len 0 n) x ≡ ltb x n
has_id-range n x =
    same_answers (has_id (range_with_len 0 n) x) (ltb x n)
    (λ h.
    let found = Contains-from_has_id (range_with_len 0 n) x h in
    let within : found.0 < n = omega (arith, length-range_with_len 0 n) in
    lt-ltb x n (omega (arith, get_or-range_with_len 0 n found.0 x within)))
    (λ h.
    let below = ltb-true x n h in
    list_any_at (λ y. eqb y x) (range_with_len 0 n) x 0 (omega (arith, length-range_with_len 0 n)) (eq-eqb _ x (get_or-range_with_len 0 n x 0 below ∙ omega arith)))

-- a filter keeps the numbers that pass
pub has_id-filter : (p : ℕ → Bool) (ids : List ℕ) (x : ℕ) → has_id (filter p ids) x ≡ (p x && has_id ids x)
has_id-filter p ids x = any-filter_same (λ y. eqb y x) p (p x) (λ k h. ap p (eqb-true k x h)) ids

pub range_rises : (n : ℕ) → IsStrictlyIncreasing (range_with_len 0 n)
range_rises n k lt =
    omega (arith, length-range_with_len 0 n, get_or-range_with_len 0 n k 0 (omega (arith, length-range_with_len 0 n)), get_or-range_with_len 0 n (k + 1) 0 (omega (arith, length-range_with_len 0 n)))
