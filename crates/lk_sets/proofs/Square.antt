-- The rows that the words of a square stand for.
use Rattle.std.proofs.Common.{ℕ, ◌+◌, ◌-◌, ◌*◌, ◌/◌, ◌%◌, replicate, ◌<◌, ◌≤◌, ◌≡◌, ◌||◌, ◌&&◌, ◌⊎◌, Bool, true, false, not, eqb, ltb, List, [], ◌∷◌, length, get_or, refl, sym, ap, ◌∙◌, subst, inl, inr, arith}
use Rattle.std.specs.Int.{bit_at}
use Rattle.std.specs.List.{range_with_len}
use Rattle.std.specs.List.Sorted.{IsStrictlyIncreasing}
use Rattle.std.proofs.Math.Bool.{or-false, and-true, and-false}
use Rattle.std.proofs.lemmas.Bool.{cases_order, or_right, true_from_ne_false, and_from, and_parts, eqb-true, cases_lt, eq-eqb, ne_eqb, lt-ltb, le-ltb, both_ways}
use Rattle.std.proofs.lemmas.List.{same_lists, get_or_default, get_or_past, get_or-replicate, length-replicate}
use Rattle.std.proofs.lemmas.Nat.Bits.{bit_at-zero}
use Rattle.std.proofs.lemmas.List.FromFn.{length-map-range_with_len, get_or-map-range_with_len}
use Rattle.std.proofs.lemmas.List.Kept.{IsStrictlyIncreasing-filter}
use Rattle.std.proofs.lemmas.Nat.{same_from_place, mul-le}
use Rattle.lk_sets.specs.Ids.{has_id}
use Rattle.lk_sets.specs.Rows.{Rows, row_of, row_from, has, IsSquare, AddsPair, HasNoneBetween, IsNextInRow}
use Rattle.lk_sets.specs.Words.{bit_in, width_of, place_of, row_in, rows_in, IsRows, IsJoined, AddsBit, AreClear, IsFirstBit}
use Rattle.lk_sets.specs.Closing.{Grows}
use Rattle.lk_sets.proofs.Closing.{put_grows, join_grows}
use Rattle.lk_sets.proofs.WordBits.{AreApart}
use Rattle.lk_sets.proofs.Rising.{one_list, from_zero, from_past, from_first}
use Rattle.lk_sets.proofs.Members.{same_answers, has_id-range, has_id-filter, range_rises}

-- what a contract sees of the words
abbrev pub seen : ℕ → List ℕ → Rows
seen n words = record { size = n; rows = rows_in n words }

row_of-seen : (n : ℕ) (words : List ℕ) (a : ℕ) → a < n → row_of (seen n words) a ≡ row_in n words a
unfolding rows_in
row_of-seen n words a within = get_or-map-range_with_len (row_in n words) 0 n a a [] within (omega arith)

row_past : (n : ℕ) (words : List ℕ) (a : ℕ) → n ≤ a → row_of (seen n words) a ≡ []
unfolding rows_in
row_past n words a past = get_or_past (rows_in n words) a [] (omega (arith, length-map-range_with_len (row_in n words) 0 n))

has_in_row : (n : ℕ) (words : List ℕ) (a b : ℕ) → a < n → has (seen n words) a b ≡ (bit_in words (place_of n a b) && ltb b n)
unfolding has
has_in_row n words a b within =
    ap (λ row. has_id row b) (row_of-seen n words a within)
    ∙ has_id-filter (λ b. bit_in words (place_of n a b)) (range_with_len 0 n) b
    ∙ ap (λ t. bit_in words (place_of n a b) && t) (has_id-range n b)

pub has-seen : (n : ℕ) (words : List ℕ) (a b : ℕ) → a < n → b < n → has (seen n words) a b ≡ bit_in words (place_of n a b)
has-seen n words a b within below = has_in_row n words a b within ∙ rw (lt-ltb b n below) (and-true (bit_in words (place_of n a b)))

past_row : (n : ℕ) (words : List ℕ) (a b : ℕ) → n ≤ a → has (seen n words) a b ≡ false
unfolding has
past_row n words a b past = ap (λ row. has_id row b) (row_past n words a past)

pub has_past : (n : ℕ) (words : List ℕ) (a b : ℕ) → (n ≤ a) ⊎ (n ≤ b) → has (seen n words) a b ≡ false
has_past n words a b (inl past) = past_row n words a b past
has_past n words a b (inr past) =
    elim (cases_lt a n) [
      | inl within ↦ has_in_row n words a b within ∙ rw (le-ltb b n past) (and-false (bit_in words (place_of n a b)))
      | inr beyond ↦ past_row n words a b beyond
    ]

-- where a pair stands, and where none does
within_size : (n : ℕ) (words : List ℕ) (a b : ℕ) → has (seen n words) a b ≡ true → (a < n) × (b < n)
within_size n words a b h =
    elim (cases_lt a n) [
      | inr past ↦ absurd (both_ways _ (has_past n words a b (inl past)) h)
      | inl within ↦ elim (cases_lt b n) [
        | inr past ↦ absurd (both_ways _ (has_past n words a b (inr past)) h)
        | inl below ↦ (within, below)
      ]
    ]

row_rises : (n : ℕ) (words : List ℕ) (a : ℕ) → IsStrictlyIncreasing (row_of (seen n words) a)
row_rises n words a =
    elim (cases_lt a n) [
      | inl within ↦ rw (row_of-seen n words a within) (IsStrictlyIncreasing-filter (λ b. bit_in words (place_of n a b)) (range_with_len 0 n) (range_rises n))
      | inr past ↦ rw (row_past n words a past) (λ k lt. absurd (omega arith))
    ]

rows_long : (n : ℕ) (words : List ℕ) → length (rows_in n words) ≡ n
unfolding rows_in
rows_long n words = length-map-range_with_len (row_in n words) 0 n

pub square-seen : (n : ℕ) (words : List ℕ) → IsRows n words → IsSquare (seen n words)
square-seen n words inside = record {
  small = inside.small;
  rows = rows_long n words;
  sorted = row_rises n words;
  within = within_size n words;
}

bit_in-zeros : (m : ℕ) (words : List ℕ) (k : ℕ) → words ≡ replicate m 0 → bit_in words k ≡ false
bit_in-zeros m words k e =
    ap (λ w. eqb (bit_at w (k % 64)) 1) (ap (λ ws. get_or ws (k / 64) 0) e ∙ zero_at (k / 64)) ∙ ne_eqb _ 1 (λ one. omega (arith, bit_at-zero (k % 64)))
  where
    zero_at : (i : ℕ) → get_or {A = ℕ} (replicate m 0) i 0 ≡ 0
    zero_at i = elim (cases_lt i m) [ inl h ↦ get_or-replicate m i 0 0 h | inr h ↦ get_or_past (replicate m 0) i 0 (omega (arith, length-replicate {A = ℕ} m 0)) ]

-- no pair stands where all words are 0
pub empty-seen : (n m : ℕ) (words : List ℕ) → words ≡ replicate m 0 → (a b : ℕ) → has (seen n words) a b ≡ false
empty-seen n m words e a b =
    elim (cases_lt a n) [
      | inr past ↦ has_past n words a b (inl past)
      | inl within ↦ elim (cases_lt b n) [
        | inr past ↦ has_past n words a b (inr past)
        | inl below ↦ has-seen n words a b within below ∙ bit_in-zeros m words (place_of n a b) e
      ]
    ]

pub rows-zeros : (n : ℕ) (words : List ℕ) → n ≤ 65536 → words ≡ replicate (n * width_of n) 0 → IsRows n words
rows-zeros n words small e = record {
  small = small;
  long = ap length e ∙ length-replicate (n * width_of n) 0;
  clear = λ a b within past before. bit_in-zeros (n * width_of n) words (place_of n a b) e;
}

-- a row's words have room for each number below the size
wide_enough : (n : ℕ) → n ≤ 64 * width_of n
wide_enough n = omega arith

-- places of different pairs differ
same_place : (n x y a b : ℕ) → y < 64 * width_of n → b < 64 * width_of n → eqb (place_of n x y) (place_of n a b) ≡ (eqb x a && eqb y b)
same_place n x y a b short short' =
    same_answers _ _
    (λ h.
    let w : ℕ = 64 * width_of n in
    let e : x * w + y ≡ a * w + b = omega (arith, eqb-true (place_of n x y) (place_of n a b) h) in
    let parts = same_from_place x y a b w short short' e in
    and_from _ _ (eq-eqb x a parts.0) (eq-eqb y b parts.1))
    (λ h.
    let parts = and_parts (eqb x a) (eqb y b) h in
    eq-eqb _ _ (ap (λ z. place_of n z y) (eqb-true x a parts.0) ∙ ap (place_of n a) (eqb-true y b parts.1)))

-- what one bit more does
module _ (n : ℕ) (old new : List ℕ) (inside : IsRows n old) (long : length new ≡ length old) (a b : ℕ) (a_in : a < n) (b_in : b < n) (bits : (k : ℕ) → bit_in new k ≡ (bit_in old k || eqb k (place_of n a b))) where
  put_rows : IsRows n new
  put_rows = record {
    small = inside.small;
    long = long ∙ inside.long;
    clear = λ x y within past before.
        bits (place_of n x y)
        ∙ rw (inside.clear x y within past before, same_place n x y a b before (omega (arith, wide_enough n)), ne_eqb y b (λ e. omega arith)) (and-false (eqb x a));
  }

  put_pairs : (x y : ℕ) → has (seen n new) x y ≡ (has (seen n old) x y || (eqb x a && eqb y b))
  put_pairs x y =
      elim (cases_lt x n) [
        | inr past ↦ rw (has_past n new x y (inl past), has_past n old x y (inl past), ne_eqb x a (λ e. omega arith)) refl
        | inl within ↦ elim (cases_lt y n) [
          | inr past ↦ rw (has_past n new x y (inr past), has_past n old x y (inr past), ne_eqb y b (λ e. omega arith)) (sym (and-false (eqb x a)))
          | inl below ↦
              has-seen n new x y within below
              ∙ bits (place_of n x y)
              ∙ rw (has-seen n old x y within below, same_place n x y a b (omega (arith, wide_enough n)) (omega (arith, wide_enough n))) refl
        ]
      ]

-- what `put` leaves of the rows r, in these words
pub record Puts (n : ℕ) (r : Rows) (new : List ℕ) (a b : ℕ) (result : Bool) : Type 0 where
  pub rows : IsRows n new
  pub pairs : (x y : ℕ) → has (seen n new) x y ≡ (has r x y || (eqb x a && eqb y b))
  pub is_new : result ≡ not (has r a b)
  pub grows : Grows r (seen n new) result

pub puts : (n : ℕ) (r : Rows) (old new : List ℕ) (a b place : ℕ) (result : Bool) → seen n old ≡ r → IsRows n old → a < r.size → b < r.size → place ≡ place_of r.size a b → length new ≡ length old → ((k : ℕ) → bit_in new k ≡ (bit_in old k || eqb k place)) → result ≡ not (bit_in old place) → (result ≡ false → new ≡ old) → Puts n r new a b result
puts n r old new a b place result shows = subst (λ r. IsRows n old → a < r.size → b < r.size → place ≡ place_of r.size a b → length new ≡ length old → ((k : ℕ) → bit_in new k ≡ (bit_in old k || eqb k place)) → result ≡ not (bit_in old place) → (result ≡ false → new ≡ old) → Puts n r new a b result) shows at_seen
  where
    at_seen : IsRows n old → a < n → b < n → place ≡ place_of n a b → length new ≡ length old → ((k : ℕ) → bit_in new k ≡ (bit_in old k || eqb k place)) → result ≡ not (bit_in old place) → (result ≡ false → new ≡ old) → Puts n (seen n old) new a b result
    at_seen inside a_in b_in at long bits is_new same =
        let pairs = put_pairs n old new inside long a b a_in b_in (λ k. bits k ∙ ap (λ p. bit_in old k || eqb k p) at) in
        let was : result ≡ not (has (seen n old) a b) = is_new ∙ ap not (ap (bit_in old) at ∙ sym (has-seen n old a b a_in b_in)) in
        record {
          rows = put_rows n old new inside long a b a_in b_in (λ k. bits k ∙ ap (λ p. bit_in old k || eqb k p) at);
          pairs = pairs;
          is_new = was;
          grows = put_grows (seen n old) (seen n new) a b result refl pairs a_in b_in was (λ h. ap (seen n) (same h));
        }

-- the words of different rows, or of one
pub rows_apart : (w from into : ℕ) → AreApart (from * w) (into * w) w
rows_apart w from into =
    elim (cases_order from into) [
      | inl same ↦ inl (ap (λ a. a * w) same)
      | inr (inl before) ↦ inr (inl (omega (arith, mul-le (from + 1) w into w (omega arith) (omega arith))))
      | inr (inr behind) ↦ inr (inr (omega (arith, mul-le (into + 1) w from w (omega arith) (omega arith))))
    ]

-- what joined words do to one row
module _ (n : ℕ) (old new : List ℕ) (inside : IsRows n old) (from into : ℕ) (from_in : from < n) (into_in : into < n) (m : IsJoined old new (from * width_of n) (into * width_of n) (width_of n)) where
  -- each bit of a row that has room for it
  joined_bit : (x y : ℕ) → y < 64 * width_of n → bit_in new (place_of n x y) ≡ (bit_in old (place_of n x y) || (eqb x into && bit_in old (place_of n from y)))
  joined_bit x y short =
      elim (cases_order x into) [
        | inl same ↦
            let into_row : place_of n x y ≡ 64 * (into * width_of n) + y = ap (λ a. place_of n a y) same in
            ap (bit_in new) into_row
            ∙ m.joined y short
            ∙ rw (eq-eqb x into same, into_row) refl
        | inr (inl before) ↦ m.below (place_of n x y) (omega (arith, mul-le (x + 1) (width_of n) into (width_of n) (omega arith) (omega arith))) ∙ rw (ne_eqb x into (λ e. omega arith), or-false (bit_in old (place_of n x y))) refl
        | inr (inr behind) ↦ m.above (place_of n x y) (omega (arith, mul-le (into + 1) (width_of n) x (width_of n) (omega arith) (omega arith))) ∙ rw (ne_eqb x into (λ e. omega arith), or-false (bit_in old (place_of n x y))) refl
      ]

  join_rows : IsRows n new
  join_rows = record {
    small = inside.small;
    long = m.long ∙ inside.long;
    clear = λ x y within past before.
        joined_bit x y before ∙ rw (inside.clear x y within past before, inside.clear from y from_in past before) (and-false (eqb x into));
  }

  join_pairs : (x y : ℕ) → has (seen n new) x y ≡ (has (seen n old) x y || (eqb x into && has (seen n old) from y))
  join_pairs x y =
      elim (cases_lt x n) [
        | inr past ↦ rw (has_past n new x y (inl past), has_past n old x y (inl past), ne_eqb x into (λ e. omega arith)) refl
        | inl within ↦ elim (cases_lt y n) [
          | inr past ↦ rw (has_past n new x y (inr past), has_past n old x y (inr past), has_past n old from y (inr past)) (sym (and-false (eqb x into)))
          | inl below ↦
              has-seen n new x y within below
              ∙ joined_bit x y (omega (arith, wide_enough n))
              ∙ rw (has-seen n old x y within below, has-seen n old from y from_in below) refl
        ]
      ]

  -- a bit that is new is that of a pair
  join_adds : AddsBit old (from * width_of n) (into * width_of n) (width_of n) → AddsPair (seen n old) from into
  join_adds added =
      let b = added.0 in
      elim (cases_lt b n) [
        | inl below ↦ (b, has-seen n old from b from_in below ∙ added.2, has-seen n old into b into_in below ∙ added.3)
        | inr past ↦ absurd (both_ways _ (inside.clear from b from_in past added.1) added.2)
      ]

-- what `join_row` leaves of the rows r, in these words
pub record Joins (n : ℕ) (r : Rows) (new : List ℕ) (from into : ℕ) (result : Bool) : Type 0 where
  pub rows : IsRows n new
  pub pairs : (x y : ℕ) → has (seen n new) x y ≡ (has r x y || (eqb x into && has r from y))
  pub adds : result ≡ true → AddsPair r from into
  pub only : AddsPair r from into → result ≡ true
  pub grows : Grows r (seen n new) result

pub joins : (n : ℕ) (r : Rows) (old new : List ℕ) (from into w : ℕ) (result : Bool) → seen n old ≡ r → IsRows n old → from < r.size → into < r.size → w ≡ width_of n → IsJoined old new (from * w) (into * w) w → (result ≡ true → AddsBit old (from * w) (into * w) w) → (result ≡ false → new ≡ old) → Joins n r new from into result
joins n r old new from into w result shows = subst (λ r. IsRows n old → from < r.size → into < r.size → w ≡ width_of n → IsJoined old new (from * w) (into * w) w → (result ≡ true → AddsBit old (from * w) (into * w) w) → (result ≡ false → new ≡ old) → Joins n r new from into result) shows at_seen
  where
    at_seen : IsRows n old → from < n → into < n → w ≡ width_of n → IsJoined old new (from * w) (into * w) w → (result ≡ true → AddsBit old (from * w) (into * w) w) → (result ≡ false → new ≡ old) → Joins n (seen n old) new from into result
    at_seen inside from_in into_in wide joined added same =
        let m : IsJoined old new (from * width_of n) (into * width_of n) (width_of n) = subst (λ w. IsJoined old new (from * w) (into * w) w) wide joined in
        let pairs = join_pairs n old new inside from into from_in into_in m in
        let adds : result ≡ true → AddsPair (seen n old) from into = λ h. join_adds n old new inside from into from_in into_in m (subst (λ w. AddsBit old (from * w) (into * w) w) wide (added h)) in
        record {
          rows = join_rows n old new inside from into from_in into_in m;
          pairs = pairs;
          adds = adds;
          only = λ found. true_from_ne_false result (λ none.
              both_ways (has (seen n old) into found.0) found.2
              (ap (λ ws. has (seen n ws) into found.0) (sym (same none)) ∙ pairs into found.0 ∙ or_right _ _ (and_from _ _ (eq-eqb into into refl) found.1)));
          grows = join_grows (seen n old) (seen n new) from into result refl pairs (within_size n old) into_in adds (λ h. ap (seen n) (same h));
        }

-- what a search from number b on in row a finds
module _ (n : ℕ) (words : List ℕ) (inside : IsRows n words) (a b : ℕ) (a_in : a < n) where
  none_found : AreClear words (64 * (a * width_of n) + b) (64 * (a * width_of n + width_of n)) → HasNoneBetween (seen n words) a b n
  none_found clear x behind before = has-seen n words a x a_in before ∙ clear (place_of n a x) (omega arith) (omega (arith, wide_enough n))

  next_found : (k : ℕ) → IsFirstBit words (64 * (a * width_of n) + b) (64 * (a * width_of n + width_of n)) k → IsNextInRow (seen n words) a b (k - 64 * (a * width_of n))
  next_found k found =
      let c : ℕ = k - 64 * (a * width_of n) in
      let at : k ≡ place_of n a c = omega (arith, found.behind) in
      let set : bit_in words (place_of n a c) ≡ true = ap (bit_in words) (sym at) ∙ found.set in
      let below : c < n = elim (cases_lt c n) [
        | inl low ↦ low
        | inr past ↦ absurd (both_ways _ (inside.clear a c a_in past (omega (arith, found.before, found.behind))) set)
      ] in
      record {
        behind = omega (arith, found.behind);
        below = below;
        found = has-seen n words a c a_in below ∙ set;
        first = λ x from upto. has-seen n words a x a_in (omega arith) ∙ found.first (place_of n a x) (omega arith) (omega (arith, found.behind));
      }

-- the same of the rows r
pub none_in_row : (n : ℕ) (r : Rows) (words : List ℕ) (a b w : ℕ) → seen n words ≡ r → IsRows n words → a < r.size → w ≡ width_of n → AreClear words (64 * (a * w) + b) (64 * (a * w + w)) → HasNoneBetween r a b r.size
none_in_row n r words a b w shows = subst (λ r. IsRows n words → a < r.size → w ≡ width_of n → AreClear words (64 * (a * w) + b) (64 * (a * w + w)) → HasNoneBetween r a b r.size) shows
    (λ inside a_in wide clear. none_found n words inside a b a_in (subst (λ w. AreClear words (64 * (a * w) + b) (64 * (a * w + w))) wide clear))

pub next_in_row : (n : ℕ) (r : Rows) (words : List ℕ) (a b w k : ℕ) → seen n words ≡ r → IsRows n words → a < r.size → w ≡ width_of n → IsFirstBit words (64 * (a * w) + b) (64 * (a * w + w)) k → IsNextInRow r a b (k - 64 * (a * w))
next_in_row n r words a b w k shows = subst (λ r. IsRows n words → a < r.size → w ≡ width_of n → IsFirstBit words (64 * (a * w) + b) (64 * (a * w + w)) k → IsNextInRow r a b (k - 64 * (a * w))) shows
    (λ inside a_in wide found. subst (λ w. IsFirstBit words (64 * (a * w) + b) (64 * (a * w + w)) k → IsNextInRow (seen n words) a b (k - 64 * (a * w))) (sym wide) (next_found n words inside a b a_in k) found)

pub row_from-zero : (r : Rows) (a : ℕ) → row_from r a 0 ≡ row_of r a
row_from-zero r a = from_zero (row_of r a)

pub row_from-none : (r : Rows) (a b : ℕ) → IsSquare r → HasNoneBetween r a b r.size → row_from r a b ≡ []
unfolding has
row_from-none r a b square none =
    from_past (row_of r a) b (λ x h. elim (cases_lt x b) [ inl before ↦ before | inr behind ↦ absurd (both_ways (has r a x) (none x behind (square.within a x h).1) h) ])

pub row_from-next : (r : Rows) (a b c : ℕ) → IsSquare r → IsNextInRow r a b c → row_from r a b ≡ c ∷ row_from r a (c + 1)
unfolding has
row_from-next r a b c square next =
    from_first (row_of r a) b c (square.sorted a) next.behind next.found
    (λ x h behind. elim (cases_lt x c) [ inl before ↦ absurd (both_ways (has r a x) (next.first x behind before) h) | inr after ↦ after ])

-- two squares of one size with the same pairs are one
pub one_square : (r s : Rows) → IsSquare r → IsSquare s → r.size ≡ s.size → ((a b : ℕ) → has r a b ≡ has s a b) → r ≡ s
unfolding has
one_square r s square square' size same =
    let rows : r.rows ≡ s.rows = same_lists r.rows s.rows (square.rows ∙ size ∙ sym square'.rows) (λ a d within.
    get_or_default r.rows a d [] within
    ∙ one_list (row_of r a) (row_of s a) (square.sorted a) (square'.sorted a) (same a)
    ∙ get_or_default s.rows a [] d (omega (arith, square.rows, square'.rows))) in
    ap (λ n. record { size = n; rows = r.rows }) size ∙ ap (λ rows. record { size = s.size; rows = rows }) rows
