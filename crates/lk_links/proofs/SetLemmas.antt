-- Lists as sets of numbers: what holds of each number, how long a list is, and what a list has that is made of others.
use Rattle.std.proofs.Common.{◌≡◌, ◌<◌, ◌≤◌, ◌+◌, ◌||◌, ◌↔◌, ◌⊎◌, ℕ, suc, Bool, true, false, eqb, cond, List, [], ◌∷◌, length, get_or, take, All, Contains, refl, sym, ap, ◌∙◌, subst, ⊎_elim, inl, inr, arith}
use Rattle.std.specs.List.{filter, flat_map, list_all, list_any, range_with_len}
use Rattle.std.specs.List.Sorted.{IsStrictlyIncreasing}
use Rattle.std.proofs.lemmas.Bool.{and_cases, and_parts, both_ways, eqb-true, eq-eqb, false≢true, lt-ltb, or_cases, or_left, or_right}
use Rattle.std.proofs.lemmas.List.{take_more}
use Rattle.std.proofs.lemmas.List.Elements.{Contains-get_or, All-contains, All-contains_itself, All-weaker}
use Rattle.std.proofs.lemmas.List.FromFn.{length-range_with_len}
use Rattle.std.proofs.lemmas.List.Kept.{IsStrictlyIncreasing-filter}
use Rattle.lk_facts.specs.Lists.{Lists}
use Rattle.lk_sets.specs.Ids.{has_id, IsSetOf}
use Rattle.lk_sets.proofs.Members.{Contains-from_has_id, has_id-filter, has_id-from_Contains, has_id-range, range_rises, same_answers}
use Rattle.lk_sets.proofs.Rising.{has_id-append, one_list}

-- what holds of each number holds of one that is there, and the other way round
pub All-has_id : (P : ℕ → Type 0) (ids : List ℕ) (x : ℕ) → All P ids → has_id ids x ≡ true → P x
All-has_id P ids x all there = All-contains P ids x all (Contains-from_has_id ids x there)

pub All-from_has_id : (P : ℕ → Type 0) (ids : List ℕ) → ((x : ℕ) → has_id ids x ≡ true → P x) → All P ids
All-from_has_id P ids each = All-weaker (Contains ids) P (λ x there. each x (has_id-from_Contains ids x there)) ids (All-contains_itself ids)

-- a list of one number has that number
pub has_id-one : (m x : ℕ) → (has_id (m ∷ []) x ≡ true) ↔ (x ≡ m)
has_id-one m x = (
  λ there. ⊎_elim (λ same. sym (eqb-true m x same)) (λ none. absurd (false≢true none)) (or_cases (eqb m x) false there),
  λ same. or_left _ _ (eq-eqb m x (sym same)),
)

pub All-one : (P : ℕ → Type 0) (x : ℕ) → P x → All P (x ∷ [])
All-one P x holds = All-from_has_id P (x ∷ []) (λ y there. subst P (sym ((has_id-one x y).0 there)) holds)

-- a test of each number
pub all_pass : (p : ℕ → Bool) (ids : List ℕ) → list_all p ids ≡ true → (x : ℕ) → has_id ids x ≡ true → p x ≡ true
all_pass p [] passes x there = absurd (false≢true there)
all_pass p (y ∷ ys) passes x there =
    let parts = and_parts (p y) (list_all p ys) passes in
    ⊎_elim (λ same. subst (λ z. p z ≡ true) (eqb-true y x same) parts.0) (λ later. all_pass p ys parts.1 x later) (or_cases (eqb y x) (has_id ys x) there)

pub one_fails : (p : ℕ → Bool) (ids : List ℕ) → list_all p ids ≡ false → (x : ℕ) × (has_id ids x ≡ true) × (p x ≡ false)
one_fails p [] not_all = absurd (false≢true (sym not_all))
one_fails p (y ∷ ys) not_all =
    elim (and_cases (p y) (list_all p ys) not_all) [
      | inl here ↦ (y, or_left _ _ (eq-eqb y y refl), here)
      | inr later ↦ let found = one_fails p ys later in (found.0, or_right (eqb y found.0) _ found.1, found.2)
    ]

-- what lists of lists have, joined end to end
pub has_id-flat_map : (f : ℕ → List ℕ) (ids : List ℕ) (x : ℕ) → (has_id (flat_map f ids) x ≡ true) ↔ ((y : ℕ) × (has_id ids y ≡ true) × (has_id (f y) x ≡ true))
has_id-flat_map f [] x = (λ there. absurd (false≢true there), λ found. absurd (false≢true found.1))
has_id-flat_map f (y ∷ ys) x =
    let rest = has_id-flat_map f ys x in
    let parts = has_id-append (f y) (flat_map f ys) x in (
      λ there.
          elim (or_cases (has_id (f y) x) (has_id (flat_map f ys) x) (sym parts ∙ there)) [
            | inl here ↦ (y, or_left _ _ (eq-eqb y y refl), here)
            | inr later ↦ let found = rest.0 later in (found.0, or_right (eqb y found.0) _ found.1, found.2)
          ],
      λ found.
          parts ∙ elim (or_cases (eqb y found.0) (has_id ys found.0) found.1) [
            | inl same ↦ or_left _ _ (subst (λ z. has_id (f z) x ≡ true) (sym (eqb-true y found.0 same)) found.2)
            | inr later ↦ or_right (has_id (f y) x) _ (rest.1 (found.0, later, found.2))
          ],
    )

-- a filter takes nothing in
filter_short : (p : ℕ → Bool) (ids : List ℕ) → length (filter p ids) ≤ length ids
filter_short p [] = omega arith
filter_short p (x ∷ xs) = at_test (p x) (filter_short p xs)
  where
    at_test : (b : Bool) → length (filter p xs) ≤ length xs → length (cond b (x ∷ filter p xs) (filter p xs)) ≤ suc (length xs)
    at_test true short = omega arith
    at_test false short = omega arith

-- and leaves fewer where a number fails
pub filter_shorter : (p : ℕ → Bool) (ids : List ℕ) (x : ℕ) → has_id ids x ≡ true → p x ≡ false → length (filter p ids) < length ids
filter_shorter p [] x there fails = absurd (false≢true there)
filter_shorter p (y ∷ ys) x there fails = at_test (p y) refl (or_cases (eqb y x) (has_id ys x) there) (λ later. filter_shorter p ys x later fails)
  where
    at_test : (b : Bool) → p y ≡ b → (eqb y x ≡ true) ⊎ (has_id ys x ≡ true) → (has_id ys x ≡ true → length (filter p ys) < length ys) → length (cond b (y ∷ filter p ys) (filter p ys)) < suc (length ys)
    at_test false is either rest = omega (arith, filter_short p ys)
    at_test true is (inl same) rest = absurd (both_ways (p x) fails (subst (λ z. p z ≡ true) (eqb-true y x same) is))
    at_test true is (inr later) rest = omega (arith, rest later)

-- an ascending list whose numbers are all in another is the other, filtered
pub filtered : (ids others : List ℕ) → IsStrictlyIncreasing ids → IsStrictlyIncreasing others → ((x : ℕ) → has_id ids x ≡ true → has_id others x ≡ true) → ids ≡ filter (has_id ids) others
filtered ids others up ups within =
    one_list ids (filter (has_id ids) others) up (IsStrictlyIncreasing-filter (has_id ids) others ups)
    (λ x. same_answers _ _
    (λ there. has_id-filter (has_id ids) others x ∙ rw (there, within x there) refl)
    (λ there. (and_parts (has_id ids x) (has_id others x) (sym (has_id-filter (has_id ids) others x) ∙ there)).0))

-- so it is shorter where it lacks one
pub shorter : (ids others : List ℕ) → IsStrictlyIncreasing ids → IsStrictlyIncreasing others → ((x : ℕ) → has_id ids x ≡ true → has_id others x ≡ true) → (x : ℕ) → has_id others x ≡ true → has_id ids x ≡ false → length ids < length others
shorter ids others up ups within x there lacks =
    subst (λ xs. length xs < length others) (sym (filtered ids others up ups within)) (filter_shorter (has_id ids) others x there lacks)

-- and an ascending list of numbers below n has at most n
pub at_most : (n : ℕ) (ids : List ℕ) → IsStrictlyIncreasing ids → All (λ x. x < n) ids → length ids ≤ n
at_most n ids up below =
    let same = filtered ids (range_with_len 0 n) up (range_rises n) (λ x there. has_id-range n x ∙ lt-ltb x n (All-has_id (λ y. y < n) ids x below there)) in
    let short = filter_short (has_id ids) (range_with_len 0 n) in
    subst (λ xs. length xs ≤ n) (sym same) (omega (arith, length-range_with_len 0 n))

-- or no longer
pub no_longer : (ids others : List ℕ) → IsStrictlyIncreasing ids → IsStrictlyIncreasing others → ((x : ℕ) → has_id ids x ≡ true → has_id others x ≡ true) → length ids ≤ length others
no_longer ids others up ups within =
    subst (λ xs. length xs ≤ length others) (sym (filtered ids others up ups within)) (filter_short (has_id ids) others)

-- a number that passes a test
pub passing : (p : ℕ → Bool) (ids : List ℕ) → list_any p ids ≡ true → (x : ℕ) × (has_id ids x ≡ true) × (p x ≡ true)
passing p [] some = absurd (false≢true some)
passing p (y ∷ ys) some =
    elim (or_cases (p y) (list_any p ys) some) [
      | inl here ↦ (y, or_left _ _ (eq-eqb y y refl), here)
      | inr later ↦ let found = passing p ys later in (found.0, or_right (eqb y found.0) _ found.1, found.2)
    ]

pub passes_at : (p : ℕ → Bool) (ids : List ℕ) (x : ℕ) → has_id ids x ≡ true → p x ≡ true → list_any p ids ≡ true
passes_at p [] x there passes = absurd (false≢true there)
passes_at p (y ∷ ys) x there passes =
    elim (or_cases (eqb y x) (has_id ys x) there) [
      | inl same ↦ or_left _ _ (subst (λ z. p z ≡ true) (sym (eqb-true y x same)) passes)
      | inr later ↦ or_right (p y) _ (passes_at p ys x later passes)
    ]

-- a relation from the numbers of a list, one number more
pub related_more : (R : ℕ → ℕ → Type 0) (xs : List ℕ) (i d : ℕ) (old new : List ℕ) → i < length xs →
    ((y : ℕ) → (has_id new y ≡ true) ↔ ((has_id old y ≡ true) ⊎ R (get_or xs i d) y)) →
    ((y : ℕ) → (has_id old y ≡ true) ↔ ((x : ℕ) × (has_id (take i xs) x ≡ true) × R x y)) →
    (y : ℕ) → (has_id new y ≡ true) ↔ ((x : ℕ) × (has_id (take (i + 1) xs) x ≡ true) × R x y)
related_more R xs i d old new within more before y =
    let z = get_or xs i d in
    let parts : (x : ℕ) → has_id (take (i + 1) xs) x ≡ (has_id (take i xs) x || has_id (z ∷ []) x) = λ x. ap (λ s. has_id s x) (take_more xs i d within) ∙ has_id-append (take i xs) (z ∷ []) x in (
      λ there.
          ⊎_elim
          (λ earlier. let found = (before y).0 earlier in (found.0, parts found.0 ∙ or_left _ _ found.1, found.2))
          (λ now. (z, parts z ∙ or_right (has_id (take i xs) z) _ ((has_id-one z z).1 refl), now))
          ((more y).0 there),
      λ found.
          (more y).1
          (elim (or_cases (has_id (take i xs) found.0) (has_id (z ∷ []) found.0) (sym (parts found.0) ∙ found.1)) [
            | inl earlier ↦ inl ((before y).1 (found.0, earlier, found.2))
            | inr now ↦ inr (subst (λ x. R x y) ((has_id-one z found.0).0 now) found.2)
          ]),
    )

-- a number that is there has a place
pub place_of_id : (ids : List ℕ) (x : ℕ) → has_id ids x ≡ true → (j : ℕ) × (j < length ids) × (get_or ids j 0 ≡ x)
place_of_id [] x there = absurd (false≢true there)
place_of_id (y ∷ ys) x there =
    elim (or_cases (eqb y x) (has_id ys x) there) [
      | inl same ↦ (0, omega arith, eqb-true y x same)
      | inr later ↦ let place = place_of_id ys x later in (suc place.0, omega (arith, place.1), place.2)
    ]

-- some number of a list, one number more
pub some_more : (P : ℕ → Type 0) (xs : List ℕ) (i d : ℕ) → i < length xs →
    ((x : ℕ) × (has_id (take (i + 1) xs) x ≡ true) × P x) ↔ (((x : ℕ) × (has_id (take i xs) x ≡ true) × P x) ⊎ P (get_or xs i d))
some_more P xs i d within =
    let z = get_or xs i d in
    let parts : (x : ℕ) → has_id (take (i + 1) xs) x ≡ (has_id (take i xs) x || has_id (z ∷ []) x) = λ x. ap (λ s. has_id s x) (take_more xs i d within) ∙ has_id-append (take i xs) (z ∷ []) x in (
      λ found.
          elim (or_cases (has_id (take i xs) found.0) (has_id (z ∷ []) found.0) (sym (parts found.0) ∙ found.1)) [
            | inl earlier ↦ inl (found.0, earlier, found.2)
            | inr now ↦ inr (subst P ((has_id-one z found.0).0 now) found.2)
          ],
      λ either.
          ⊎_elim
          (λ earlier. (earlier.0, parts earlier.0 ∙ or_left _ _ earlier.1, earlier.2))
          (λ now. (z, parts z ∙ or_right (has_id (take i xs) z) _ ((has_id-one z z).1 refl), now))
          either,
    )

-- what stands at a place is there
pub has_id-at : (xs : List ℕ) (i d : ℕ) → i < length xs → has_id xs (get_or xs i d) ≡ true
has_id-at xs i d within = has_id-from_Contains xs (get_or xs i d) (Contains-get_or xs i d within)

-- a set of the numbers of a list holds what each of these is
pub All-set : (P : ℕ → Type 0) (ids set : List ℕ) → IsSetOf (has_id ids) set → ((x : ℕ) → has_id ids x ≡ true → P x) → All P set
All-set P ids set is each = All-from_has_id P set (λ x there. each x (sym (is.members x) ∙ there))

-- and lists what they are just the numbers with
pub Lists-set : (P : ℕ → Type 0) (ids set : List ℕ) → IsSetOf (has_id ids) set → ((x : ℕ) → (has_id ids x ≡ true) ↔ P x) → Lists P set
Lists-set P ids set is each = record {
  sorted = is.sorted;
  members = λ x. (λ there. (each x).0 (sym (is.members x) ∙ there), λ holds. is.members x ∙ (each x).1 holds);
}
