-- Ascending lists.
use Rattle.std.proofs.Common.{ℕ, zero, suc, ◌+◌, ◌<◌, ◌≤◌, ◌≡◌, ◌||◌, Bool, true, false, eqb, leb, List, [], ◌∷◌, ◌++◌, get_or, refl, sym, ap, ◌∙◌, subst, inl, inr, arith}
use Rattle.std.specs.List.{filter}
use Rattle.std.specs.List.Sorted.{IsStrictlyIncreasing}
use Rattle.std.proofs.lemmas.Bool.{cases_lt, both_ways, eqb-true, eq-eqb, le-leb, lt-leb, or_cases, or_left, or_right}
use Rattle.std.proofs.lemmas.List.Elements.{Contains-get_or}
use Rattle.std.proofs.lemmas.List.Folds.{list_any-append}
use Rattle.std.proofs.lemmas.List.Kept.{AllPairs-from_increasing}
use Rattle.lk_sets.specs.Ids.{has_id}
use Rattle.lk_sets.proofs.Members.{same_answers, Contains-from_has_id, has_id-from_Contains}

pub tail_rises : (x : ℕ) (xs : List ℕ) → IsStrictlyIncreasing (x ∷ xs) → IsStrictlyIncreasing xs
tail_rises x xs up k lt = AllPairs-from_increasing (x ∷ xs) up (suc k) (suc (k + 1)) 0 (omega arith) (omega arith)

pub tail_above : (x : ℕ) (xs : List ℕ) → IsStrictlyIncreasing (x ∷ xs) → (y : ℕ) → has_id xs y ≡ true → x < y
tail_above x xs up y h =
    let found = Contains-from_has_id xs y h in
    let less : x < get_or xs found.0 y = AllPairs-from_increasing (x ∷ xs) up 0 (suc found.0) y (omega arith) (omega arith) in
    subst (λ z. x < z) found.2 less

pub head_least : (x : ℕ) (xs : List ℕ) → IsStrictlyIncreasing (x ∷ xs) → (y : ℕ) → has_id (x ∷ xs) y ≡ true → x ≤ y
head_least x xs up y h =
    elim (or_cases (eqb x y) (has_id xs y) h) [
      | inl same ↦ omega (arith, eqb-true x y same)
      | inr later ↦ omega (arith, tail_above x xs up y later)
    ]

pub has_id-append : (ids more : List ℕ) (x : ℕ) → has_id (ids ++ more) x ≡ (has_id ids x || has_id more x)
has_id-append ids more x = list_any-append (λ y. eqb y x) ids more

pub cons_rises : (x : ℕ) (xs : List ℕ) → ((y : ℕ) → has_id xs y ≡ true → x < y) → IsStrictlyIncreasing xs → IsStrictlyIncreasing (x ∷ xs)
cons_rises x xs above up zero lt = above _ (has_id-from_Contains xs _ (Contains-get_or xs 0 0 (omega arith)))
cons_rises x xs above up (suc k) lt = let next : suc k + 1 ≡ suc (k + 1) = omega arith in rw next (up k (omega arith))

-- two ascending lists, each number of the one below those of the other
pub append_rises : (xs ys : List ℕ) → IsStrictlyIncreasing xs → IsStrictlyIncreasing ys → ((x y : ℕ) → has_id xs x ≡ true → has_id ys y ≡ true → x < y) → IsStrictlyIncreasing (xs ++ ys)
append_rises [] ys up ups above = ups
append_rises (x ∷ xs) ys up ups above =
    cons_rises x (xs ++ ys)
    (λ y h. elim (or_cases (has_id xs y) (has_id ys y) (sym (has_id-append xs ys y) ∙ h)) [
      | inl here ↦ tail_above x xs up y here
      | inr there ↦ above x y (or_left _ _ (eq-eqb x x refl)) there
    ])
    (append_rises xs ys (tail_rises x xs up) ups (λ z y h. above z y (or_right (eqb x z) _ h)))

-- all numbers pass, or none does
filter_whole : (p : ℕ → Bool) (xs : List ℕ) → ((x : ℕ) → has_id xs x ≡ true → p x ≡ true) → filter p xs ≡ xs
filter_whole p [] all = refl
filter_whole p (x ∷ xs) all = rw (all x (or_left _ _ (eq-eqb x x refl))) (ap (λ ys. x ∷ ys) (filter_whole p xs (λ y h. all y (or_right (eqb x y) _ h))))

filter_none : (p : ℕ → Bool) (xs : List ℕ) → ((x : ℕ) → has_id xs x ≡ true → p x ≡ false) → filter p xs ≡ []
filter_none p [] none = refl
filter_none p (x ∷ xs) none = rw (none x (or_left _ _ (eq-eqb x x refl))) (filter_none p xs (λ y h. none y (or_right (eqb x y) _ h)))

pub from_zero : (xs : List ℕ) → filter (λ x. leb 0 x) xs ≡ xs
from_zero xs = filter_whole (λ x. leb 0 x) xs (λ x h. le-leb 0 x (omega arith))

-- no number from b on is there
pub from_past : (xs : List ℕ) (b : ℕ) → ((x : ℕ) → has_id xs x ≡ true → x < b) → filter (λ x. leb b x) xs ≡ []
from_past xs b below = filter_none (λ x. leb b x) xs (λ x h. lt-leb b x (below x h))

-- c is the first number from b on that is there
pub from_first : (xs : List ℕ) (b c : ℕ) → IsStrictlyIncreasing xs → b ≤ c → has_id xs c ≡ true → ((x : ℕ) → has_id xs x ≡ true → b ≤ x → c ≤ x) → filter (λ x. leb b x) xs ≡ c ∷ filter (λ x. leb (c + 1) x) xs
from_first [] b c up behind there first = absurd (both_ways false refl there)
from_first (x ∷ xs) b c up behind there first =
    elim (cases_lt x b) [
      | inl before ↦
          let later : has_id xs c ≡ true = elim (or_cases (eqb x c) (has_id xs c) there) [ inl same ↦ absurd (omega (arith, eqb-true x c same)) | inr h ↦ h ] in
          rw (lt-leb b x before, lt-leb (c + 1) x (omega arith)) (from_first xs b c (tail_rises x xs up) behind later (λ y h. first y (or_right (eqb x y) _ h)))
      | inr from_b ↦
          let same : x ≡ c = omega (arith, head_least x xs up c there, first x (or_left _ _ (eq-eqb x x refl)) from_b) in
          rw (le-leb b x from_b, lt-leb (c + 1) x (omega arith))
          (ap (λ y. y ∷ filter (λ z. leb b z) xs) same ∙ ap (λ ys. c ∷ ys) (
          filter_whole (λ z. leb b z) xs (λ y h. le-leb b y (omega (arith, tail_above x xs up y h)))
          ∙ sym (filter_whole (λ z. leb (c + 1) z) xs (λ y h. le-leb (c + 1) y (omega (arith, tail_above x xs up y h))))))
    ]

has_head : (x : ℕ) (xs : List ℕ) → has_id (x ∷ xs) x ≡ true
has_head x xs = or_left _ _ (eq-eqb x x refl)

-- what is behind the head of one list is behind that of another
in_tail : (x y : ℕ) (xs ys : List ℕ) → x ≡ y → IsStrictlyIncreasing (x ∷ xs) → ((z : ℕ) → has_id (x ∷ xs) z ≡ has_id (y ∷ ys) z) → (z : ℕ) → has_id xs z ≡ true → has_id ys z ≡ true
in_tail x y xs ys head up same z h =
    elim (or_cases (eqb y z) (has_id ys z) (sym (same z) ∙ or_right (eqb x z) _ h)) [
      | inl here ↦ absurd (omega (arith, eqb-true y z here, tail_above x xs up z h))
      | inr later ↦ later
    ]

-- two ascending lists with the same numbers are one
pub one_list : (xs ys : List ℕ) → IsStrictlyIncreasing xs → IsStrictlyIncreasing ys → ((z : ℕ) → has_id xs z ≡ has_id ys z) → xs ≡ ys
one_list [] [] up ups same = refl
one_list [] (y ∷ ys) up ups same = absurd (both_ways false refl (same y ∙ has_head y ys))
one_list (x ∷ xs) [] up ups same = absurd (both_ways false refl (sym (same x) ∙ has_head x xs))
one_list (x ∷ xs) (y ∷ ys) up ups same =
    let head : x ≡ y = omega (arith, head_least x xs up y (same y ∙ has_head y ys), head_least y ys ups x (sym (same x) ∙ has_head x xs)) in
    let tail : (z : ℕ) → has_id xs z ≡ has_id ys z = λ z. same_answers _ _ (in_tail x y xs ys head up same z) (in_tail y x ys xs (sym head) ups (λ w. sym (same w)) z) in
    ap (λ w. w ∷ xs) head ∙ ap (λ ws. y ∷ ws) (one_list xs ys (tail_rises x xs up) (tail_rises y ys ups) tail)
