-- The numbers of functions count the bodies of all sources.
use Rattle.std.proofs.Common.{arith, ap, sym, subst, ◌∙◌, ◌≡◌, ◌<◌, ◌≤◌, ◌+◌, ◌-◌, inl, inr, ℕ, zero, suc, List, [], ◌∷◌, ◌++◌, length, get_or, set, drop, slice_get, Some, refl, add-one, drop-cons, append_assoc}
use Rattle.std.specs.Prelude.{nat_eq, if◌then◌else◌, Bool, true, false}
use Rattle.std.proofs.lemmas.Bool.{cases_lt}
use Rattle.std.proofs.lemmas.List.{get_or-set_same, get_or-set_other, get_or_append_left, get_or_at, get_or-append-add, get_or_push, drop_all}
use Rattle.std.proofs.lemmas.Option.{get_or_from_slice_get, none-some, same_Some}
use Rattle.std.proofs.lemmas.Bool.{eqb-true, eqb-false}
use Rattle.lk_lower_expr.specs.Lowering.{ComesBefore, Counts, is_body_of, place_in, source, node, step}
use Rattle.lk_lower_expr.specs.Programs.{HasFunction}
use Rattle.lk_lower_parts.specs.FunctionNumbers.{AreFunctionNumbers, AreOfEntities, bodies_of, firsts, number_of}
use Rattle.lk_lower_parts.specs.declared.counts.FunctionNumbers.{FunctionNumbers}
use Rattle.lk_typed.specs.declared.unit.Body.{Body}
use Rattle.lk_typed.specs.declared.whole.Linked.{Linked}

-- ---- where an index is in a list

pub inside : {A : Type 0} (xs : List A) (i : ℕ) (x : A) → slice_get xs i ≡ Some x → i < length xs
inside [] i x at = absurd (none-some x at)
inside (y ∷ xs) zero x at = omega arith
inside (y ∷ xs) (suc i) x at = let h = inside xs i x at in omega arith

pub at_index : {A : Type 0} (xs : List A) (i : ℕ) → i < length xs → (x : A) × (slice_get xs i ≡ Some x)
at_index [] i h = absurd (omega arith)
at_index (x ∷ xs) zero h = (x, refl)
at_index (x ∷ xs) (suc i) h = at_index xs i (omega arith)

-- ---- the first function of each source

least_first : (sources : List Linked) (n s : ℕ) (linked : Linked) → slice_get sources s ≡ Some linked → n ≤ get_or (firsts n sources) s 0
least_first [] n s linked at = absurd (none-some linked at)
least_first (one ∷ sources) n zero linked at = omega arith
least_first (one ∷ sources) n (suc s) linked at = let h = least_first sources (n + length one.unit.bodies) s linked at in omega arith

below_all : (sources : List Linked) (n s b : ℕ) (linked : Linked) → slice_get sources s ≡ Some linked → b < length linked.unit.bodies → get_or (firsts n sources) s 0 + b < n + bodies_of sources
below_all [] n s b linked at within = absurd (none-some linked at)
below_all (one ∷ sources) n zero b linked at within = let e = ap (λ (l : Linked). length l.unit.bodies) (same_Some one linked at) in omega arith
below_all (one ∷ sources) n (suc s) b linked at within = let h = below_all sources (n + length one.unit.bodies) s b linked at within in omega arith

-- the functions of a source stand before those of each later one
before_later : (sources : List Linked) (n s t b : ℕ) (linked later : Linked) → slice_get sources s ≡ Some linked → slice_get sources t ≡ Some later → b < length linked.unit.bodies → s < t →
    get_or (firsts n sources) s 0 + b < get_or (firsts n sources) t 0
before_later [] n s t b linked later at at_t within order = absurd (none-some linked at)
before_later (one ∷ sources) n s zero b linked later at at_t within order = absurd (omega arith)
before_later (one ∷ sources) n zero (suc t) b linked later at at_t within order =
    let e = ap (λ (l : Linked). length l.unit.bodies) (same_Some one linked at) in
    let h = least_first sources (n + length one.unit.bodies) t later at_t in omega arith
before_later (one ∷ sources) n (suc s) (suc t) b linked later at at_t within order =
    before_later sources (n + length one.unit.bodies) s t b linked later at at_t within (omega arith)

abbrev Found : List Linked → (n m : ℕ) → Type 0
Found sources n m = (s : ℕ) × (b : ℕ) × (linked : Linked) × (slice_get sources s ≡ Some linked) × (b < length linked.unit.bodies) × (get_or (firsts n sources) s 0 + b ≡ n + m)

moved : (one : Linked) (sources : List Linked) (n m : ℕ) → length one.unit.bodies ≤ m → Found sources (n + length one.unit.bodies) (m - length one.unit.bodies) → Found (one ∷ sources) n m
moved one sources n m past found = (suc found.0, found.1, found.2, found.3, found.4, found.5 ∙ whole)
  where
    whole : (n + length one.unit.bodies) + (m - length one.unit.bodies) ≡ n + m
    whole = omega arith

find_body : (sources : List Linked) (n m : ℕ) → m < bodies_of sources → Found sources n m
find_body [] n m within = absurd (omega arith)
find_body (one ∷ sources) n m within = elim (cases_lt m (length one.unit.bodies)) [
  | inl here ↦ (zero, m, one, refl, here, refl)
  | inr past ↦ moved one sources n m past (find_body sources (n + length one.unit.bodies) (m - length one.unit.bodies) (omega (arith, within, past)))
]

module _ (sources : List Linked) where
  abbrev number : (s b k : ℕ) → ℕ
  number s b k = get_or (firsts 0 sources) s 0 + b

  within_source : (s b k : ℕ) (has : HasFunction sources s b k) → b < length has.1.0.unit.bodies
  within_source s b k has = inside has.1.0.unit.bodies b has.1.1 has.1.2.at

  rises : (s b k t c l : ℕ) → HasFunction sources s b k → HasFunction sources t c l → ComesBefore s b k t c l → number s b k < number t c l
  rises s b k t c l has too (source earlier) =
      let h = before_later sources 0 s t b has.1.0 too.1.0 has.1.2.source too.1.2.source (within_source s b k has) earlier in omega (arith, h)
  rises s b k _ c l has too (node earlier) = omega (arith, earlier)
  rises s b k _ _ l has too (step earlier) = absurd (omega (arith, has.0, too.0, earlier))

  found_there : (m : ℕ) → m < bodies_of sources → (s : ℕ) × (b : ℕ) × (k : ℕ) × HasFunction sources s b k × (number s b k ≡ 0 + m)
  found_there m within =
      let found = find_body sources 0 m within in
      let body = at_index found.2.unit.bodies found.1 found.4 in
      (found.0, found.1, 0, (refl, (found.2, body.0, record { source = found.3; at = body.1 })), found.5)

  pub counted : Counts (HasFunction sources) 0 (bodies_of sources) number
  counted = record {
    least = λ s b k has. omega arith;
    below = λ s b k has. below_all sources 0 s b has.1.0 has.1.2.source (within_source s b k has);
    rising = rises;
    onto = found_there;
  }

-- ---- the entities of a source

-- what stands before the last k of a list, and then those
pub from_end : {A : Type 0} (xs : List A) (k i : ℕ) (x : A) → k < length xs → i ≡ length xs - 1 - k → x ≡ get_or xs i x → drop (length xs - (k + 1)) xs ≡ x ∷ drop (length xs - k) xs
from_end xs k i x within at is = ap (λ n. drop n xs) before ∙ (drop-cons xs i x here ∙ ap (λ y. y ∷ drop (suc i) xs) (sym is)) ∙ ap (λ n. x ∷ drop n xs) behind
  where
    before : length xs - (k + 1) ≡ i
    before = omega (arith, within, at)

    here : i < length xs
    here = omega (arith, within, at)

    behind : suc i ≡ length xs - k
    behind = omega (arith, within, at)

at_first : (first : ℕ) → first ≡ first + 0
at_first first = omega arith

at_later : (first place : ℕ) → suc first + place ≡ first + suc place
at_later first place = omega arith

-- where the numbers of the functions from one on are given, and that of one more before it
give_one : (row new : List ℕ) (body : Body) (rest : List Body) (first none e : ℕ) (same : Bool) → nat_eq body.entity e ≡ same → body.entity < length row → new ≡ set row body.entity first →
    get_or row e none ≡ suc first + place_in (is_body_of e) rest → get_or new e none ≡ first + (if same then 0 else suc (place_in (is_body_of e) rest))
give_one row new body rest first none e true is within put was =
    ap (λ r. get_or r e none) put ∙ ap (λ n. get_or (set row body.entity first) n none) (sym (eqb-true body.entity e is)) ∙ get_or-set_same row body.entity first none within ∙ at_first first
give_one row new body rest first none e false is within put was =
    ap (λ r. get_or r e none) put ∙ get_or-set_other row body.entity e first none (λ same. eqb-false body.entity e is (sym same)) ∙ was ∙ at_later first (place_in (is_body_of e) rest)

pub give_more : (bodies : List Body) (k b : ℕ) (body : Body) (first none : ℕ) (row new : List ℕ) → k < length bodies → b ≡ length bodies - 1 - k → body ≡ get_or bodies b body →
    body.entity < length row → new ≡ set row body.entity (first + b) →
    ((e : ℕ) → get_or row e none ≡ (first + (length bodies - k)) + place_in (is_body_of e) (drop (length bodies - k) bodies)) →
    (e : ℕ) → get_or new e none ≡ (first + (length bodies - (k + 1))) + place_in (is_body_of e) (drop (length bodies - (k + 1)) bodies)
give_more bodies k b body first none row new within at is inside_row put was e =
    give_one row new body (drop (length bodies - k) bodies) (first + b) none e (nat_eq body.entity e) refl inside_row put (was e ∙ ap (λ n. n + place_in (is_body_of e) (drop (length bodies - k) bodies)) behind) ∙
    ap (λ n. n + place_in (is_body_of e) (body ∷ drop (length bodies - k) bodies)) here ∙
    ap (λ xs. (first + (length bodies - (k + 1))) + place_in (is_body_of e) xs) (sym (from_end bodies k b body within at is))
  where
    behind : first + (length bodies - k) ≡ suc (first + b)
    behind = omega (arith, within, at)

    here : first + b ≡ first + (length bodies - (k + 1))
    here = omega (arith, within, at)

-- ---- one source more

firsts_begin : (n : ℕ) (sources : List Linked) → get_or (firsts n sources) 0 0 ≡ n
firsts_begin n [] = refl
firsts_begin n (one ∷ sources) = refl

-- those of the next source stand behind those of a source, and behind the last one is the count
firsts_next : (sources : List Linked) (n s : ℕ) (linked : Linked) → slice_get sources s ≡ Some linked → get_or (firsts n sources) (suc s) 0 ≡ get_or (firsts n sources) s 0 + length linked.unit.bodies
firsts_next [] n s linked at = absurd (none-some linked at)
firsts_next (one ∷ sources) n zero linked at = firsts_begin (n + length one.unit.bodies) sources ∙ ap (λ (l : Linked). n + length l.unit.bodies) (same_Some one linked at)
firsts_next (one ∷ sources) n (suc s) linked at = firsts_next sources (n + length one.unit.bodies) s linked at

firsts_past : (sources : List Linked) (n : ℕ) → get_or (firsts n sources) (length sources) 0 ≡ n + bodies_of sources
firsts_past [] n = at_first n
firsts_past (one ∷ sources) n = firsts_past sources (n + length one.unit.bodies) ∙ regroup (length one.unit.bodies) (bodies_of sources)
  where
    regroup : (m k : ℕ) → (n + m) + k ≡ n + (m + k)
    regroup m k = omega arith

-- the rows of the first sources
abbrev pub Rows : List Linked → ℕ → List (List ℕ) → Type 0
Rows sources k rows = (s : ℕ) (linked : Linked) → s < k → slice_get sources s ≡ Some linked →
    AreOfEntities (get_or (firsts 0 sources) s 0) (get_or (firsts 0 sources) (suc s) 0) linked.unit.bodies (get_or rows s [])

module _ (sources : List Linked) (old : List ℕ) (i next : ℕ) (x : Linked) (within : i < length sources) (is : x ≡ get_or sources i x) (so_far : firsts 0 sources ≡ old ++ firsts next (drop i sources)) where
  turn : drop i sources ≡ x ∷ drop (i + 1) sources
  turn = drop-cons sources i x within ∙ ap (λ y. y ∷ drop (suc i) sources) (sym is) ∙ ap (λ n. x ∷ drop n sources) (sym (add-one i))

  open_first : firsts 0 sources ≡ old ++ (next ∷ firsts (next + length x.unit.bodies) (drop (i + 1) sources))
  open_first = so_far ∙ ap (λ xs. old ++ firsts next xs) turn

  pub first_more : (new : List ℕ) → new ≡ old ++ (next ∷ []) → firsts 0 sources ≡ new ++ firsts (next + length x.unit.bodies) (drop (i + 1) sources)
  first_more new put = open_first ∙ sym (ap (λ xs. xs ++ firsts (next + length x.unit.bodies) (drop (i + 1) sources)) put ∙ append_assoc old (next ∷ []) (firsts (next + length x.unit.bodies) (drop (i + 1) sources)))

  pub count_more : bodies_of sources ≡ next + bodies_of (drop i sources) → bodies_of sources ≡ (next + length x.unit.bodies) + bodies_of (drop (i + 1) sources)
  count_more was = was ∙ ap (λ xs. next + bodies_of xs) turn ∙ regroup (length x.unit.bodies) (bodies_of (drop (i + 1) sources))
    where
      regroup : (m n : ℕ) → next + (m + n) ≡ (next + m) + n
      regroup m n = omega arith

  module _ (rows : List (List ℕ)) (row : List ℕ) (new : List (List ℕ)) (as_many : length old ≡ i) (rows_many : length rows ≡ i) (put : new ≡ rows ++ (row ∷ [])) (row_is : AreOfEntities next (next + length x.unit.bodies) x.unit.bodies row) where
    first_here : get_or (firsts 0 sources) i 0 ≡ next
    first_here = ap (λ xs. get_or xs i 0) open_first ∙ get_or_at old next (firsts (next + length x.unit.bodies) (drop (i + 1) sources)) 0 i as_many

    none_here : get_or (firsts 0 sources) (suc i) 0 ≡ next + length x.unit.bodies
    none_here = ap (λ xs. get_or xs (suc i) 0) open_first ∙ (ap (λ n. get_or (old ++ (next ∷ firsts (next + length x.unit.bodies) (drop (i + 1) sources))) n 0) at ∙
        get_or-append-add old (next ∷ firsts (next + length x.unit.bodies) (drop (i + 1) sources)) 1 0) ∙ firsts_begin (next + length x.unit.bodies) (drop (i + 1) sources)
      where
        at : suc i ≡ length old + 1
        at = omega (arith, as_many)

    row_here : get_or (rows ++ (row ∷ [])) i [] ≡ row
    row_here = get_or_push rows row [] i rows_many

    at_end : (s : ℕ) (linked : Linked) → s ≡ i → slice_get sources s ≡ Some linked → AreOfEntities (get_or (firsts 0 sources) s 0) (get_or (firsts 0 sources) (suc s) 0) linked.unit.bodies (get_or (rows ++ (row ∷ [])) s [])
    at_end s linked here at = rw (here, first_here, none_here, same, row_here) row_is
      where
        same : linked ≡ x
        same = sym (get_or_from_slice_get sources s linked x at) ∙ (ap (λ n. get_or sources n x) here ∙ sym is)

    pub rows_more : Rows sources i rows → Rows sources (i + 1) new
    rows_more was s linked below at = elim (cases_lt s i) [
      | inl before ↦ rw (put, get_or_append_left rows (row ∷ []) [] s (omega (arith, before, rows_many))) (was s linked before at)
      | inr not ↦ rw put (at_end s linked (omega (arith, below, not)) at)
    ]

-- ---- all sources

pub all_numbered : (sources : List Linked) (i next : ℕ) (first : List ℕ) (rows : List (List ℕ)) (found : FunctionNumbers) → i ≡ length sources → firsts 0 sources ≡ first ++ firsts next (drop i sources) → bodies_of sources ≡ next + bodies_of (drop i sources) →
    length rows ≡ i → Rows sources i rows → found.first ≡ first ++ (next ∷ []) → found.count ≡ next → found.of_entities ≡ rows → AreFunctionNumbers sources found
all_numbered sources i next first rows found end so_far count_so_far rows_many rows_are put count_put rows_put = record {
  first = first_is;
  count = count_is;
  sources_ = ap length rows_put ∙ (rows_many ∙ end);
  of_entities = λ s linked at. rw (first_is, rows_put) (rows_are s linked (here s linked at) at);
  order = subst (λ n. Counts (HasFunction sources) 0 n (number_of found)) (sym count_is)
      (subst (λ (all : List ℕ). Counts (HasFunction sources) 0 (bodies_of sources) (λ s b k. get_or all s 0 + b)) (sym first_is) (counted sources));
}
  where
    none : drop i sources ≡ []
    none = drop_all i sources (omega (arith, end))

    first_is : found.first ≡ firsts 0 sources
    first_is = put ∙ sym (so_far ∙ ap (λ xs. first ++ firsts next xs) none)

    plus_none : next + 0 ≡ next
    plus_none = omega arith

    count_is : found.count ≡ bodies_of sources
    count_is = count_put ∙ sym (count_so_far ∙ ap (λ xs. next + bodies_of xs) none ∙ plus_none)

    here : (s : ℕ) (linked : Linked) → slice_get sources s ≡ Some linked → s < i
    here s linked at = let h = inside sources s linked at in omega (arith, h, end)

-- ---- what the numbers of functions say

module _ (sources : List Linked) (found : FunctionNumbers) (are : AreFunctionNumbers sources found) where
  pub none_before : get_or found.first 0 0 ≡ 0
  none_before = ap (λ all. get_or all 0 0) are.first ∙ firsts_begin 0 sources

  pub next_first : (s : ℕ) (linked : Linked) → slice_get sources s ≡ Some linked → get_or found.first (s + 1) 0 ≡ get_or found.first s 0 + length linked.unit.bodies
  next_first s linked at = subst (λ (all : List ℕ). get_or all (s + 1) 0 ≡ get_or all s 0 + length linked.unit.bodies) (sym are.first)
      (ap (λ n. get_or (firsts 0 sources) n 0) (add-one s) ∙ firsts_next sources 0 s linked at)

  pub all_before : (s : ℕ) → s ≡ length sources → get_or found.first s 0 ≡ found.count
  all_before s past = ap (λ n. get_or found.first n 0) past ∙ (ap (λ all. get_or all (length sources) 0) are.first ∙ (firsts_past sources 0 ∙ (from_zero (bodies_of sources) ∙ sym are.count)))
    where
      from_zero : (n : ℕ) → 0 + n ≡ n
      from_zero n = omega arith

  pub below_count : (s b : ℕ) (linked : Linked) → slice_get sources s ≡ Some linked → b < length linked.unit.bodies → get_or found.first s 0 + b < found.count
  below_count s b linked at within = subst (λ (all : List ℕ). get_or all s 0 + b < found.count) (sym are.first) (let h = below_all sources 0 s b linked at within in omega (arith, h, are.count))
