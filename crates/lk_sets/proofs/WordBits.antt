-- Bits of words: one set, many joined, the first.
use Rattle.std.proofs.Common.{below_more, max, not, ℕ, zero, suc, ◌+◌, ◌-◌, ◌*◌, ◌/◌, ◌%◌, ◌^◌, ◌<◌, ◌≤◌, ◌≡◌, ◌||◌, ◌⊎◌, Bool, true, false, eqb, List, length, get_or, bit_and, bit_or, refl, sym, ap, ◌∙◌, inl, inr, arith}
use Rattle.std.specs.Prelude.{slice_set as set}
use Rattle.std.specs.Int.{bit_at, trailing_zeros, w64}
use Rattle.std.proofs.lemmas.Bool.Decides.{nat_tests}
use Rattle.std.proofs.Math.Bool.{or-false}
use Rattle.std.proofs.lemmas.Bool.{cases_eq, cases_lt, eq-eqb, eqb-true, eqb-false, ne_eqb, not-true, not-false, or_right, or_cases, or_parts}
use Rattle.std.proofs.lemmas.List.{get_or-set_same, get_or-set_other, get_or_read, length-set, set-get_or}
use Rattle.std.proofs.lemmas.Nat.Bits.{bit_at_and, bit_at-trailing_zeros, bit_at_mask_inside, bit_at_mask_below, ones_shl, bit_at-zero, bit_at_or, bit_at_above, bit_at-lt, same_from_bits, bit_at_set_same, bit_at_set_other}
use Rattle.lk_sets.specs.Words.{bit_in, IsJoined, AddsBit, AreClear, IsFirstBit}

-- `old` with the first words joined
pub record IsJoinedTo (old new : List ℕ) (from into i : ℕ) : Type 0 where
  pub long : length new ≡ length old
  pub joined : (k : ℕ) → k < i → get_or new (into + k) 0 ≡ bit_or (get_or old (into + k) 0) (get_or old (from + k) 0)
  pub below : (k : ℕ) → k < into → get_or new k 0 ≡ get_or old k 0
  pub above : (k : ℕ) → into + i ≤ k → get_or new k 0 ≡ get_or old k 0

bit_cases : (n i : ℕ) → (bit_at n i ≡ 0) ⊎ (bit_at n i ≡ 1)
bit_cases n i = elim (cases_lt (bit_at n i) 1) [ inl low ↦ inl (omega arith) | inr high ↦ inr (omega (arith, bit_at-lt n i)) ]

-- the words after `words[b / 64] |= 1 << (b % 64)`
pub bit_in-set_bit : (words : List ℕ) (b k w : ℕ) → b / 64 < length words → w ≡ get_or words (b / 64) w → bit_in (set words (b / 64) (bit_or w (1 * 2 ^ (b % 64) % 18446744073709551616))) k ≡ (bit_in words k || eqb k b)
bit_in-set_bit words b k w within read =
    elim (cases_eq (k / 64) (b / 64)) [
      | inr apart ↦ rw (get_or-set_other, ne_eqb k b (λ e. apart (ap (λ n. n / 64) e)), or-false (bit_in words k))
      | inl same ↦ elim (cases_eq (k % 64) (b % 64)) [
        | inl alike ↦
            let one : bit_at (bit_or w (1 * 2 ^ (b % 64) % 18446744073709551616)) (b % 64) ≡ 1 = bit_at_set_same w64 w (b % 64) (omega arith) in
            rw (same, get_or-set_same, alike, one, eq-eqb k b (omega arith)) (sym (or_right _ true refl))
        | inr differ ↦
            let kept : bit_at (bit_or w (1 * 2 ^ (b % 64) % 18446744073709551616)) (k % 64) ≡ bit_at w (k % 64) = bit_at_set_other w64 w (b % 64) (omega arith) (k % 64) differ in
            rw (same, get_or-set_same, kept, ne_eqb k b (λ e. differ (ap (λ n. n % 64) e)), or-false, get_or_read words (b / 64) w within read 0)
      ]
    ]

-- which of two bits is 1
max_is_one : (p q : ℕ) → p < 2 → q < 2 → eqb (max p q) 1 ≡ (eqb p 1 || eqb q 1)
max_is_one p q small small' = grind (arith, nat_tests)

bit_in-or : (x y i : ℕ) → eqb (bit_at (bit_or x y) i) 1 ≡ (eqb (bit_at x i) 1 || eqb (bit_at y i) 1)
bit_in-or x y i = ap (λ n. eqb n 1) (bit_at_or x y i) ∙ max_is_one (bit_at x i) (bit_at y i) (bit_at-lt x i) (bit_at-lt y i)

-- a bit by its word and its place there
pub bit_in_at : (words : List ℕ) (a i j : ℕ) → j < 64 → bit_in words (64 * a + (64 * i + j)) ≡ eqb (bit_at (get_or words (a + i) 0) j) 1
bit_in_at words a i j below =
    let word : (64 * a + (64 * i + j)) / 64 ≡ a + i = omega arith in
    let place : (64 * a + (64 * i + j)) % 64 ≡ j = omega arith in
    rw (word, place)

-- some bit below n is 1 in y and 0 in x, or there is none
first_new : (x y n : ℕ) → ((j : ℕ) × (j < n) × (bit_at y j ≡ 1) × (bit_at x j ≡ 0)) ⊎ ((j : ℕ) → j < n → bit_at (bit_or x y) j ≡ bit_at x j)
first_new x y zero = inr (λ j h. absurd (omega arith))
first_new x y (suc n) =
    elim (first_new x y n) [
      | inl found ↦ inl (found.0, omega arith, found.2, found.3)
      | inr none ↦ at_n (bit_cases x n) (bit_cases y n) none
    ]
  where
    all_below : ((j : ℕ) → j < n → bit_at (bit_or x y) j ≡ bit_at x j) → bit_at (bit_or x y) n ≡ bit_at x n → (j : ℕ) → j < suc n → bit_at (bit_or x y) j ≡ bit_at x j
    all_below none here j h = below_more (λ j. bit_at (bit_or x y) j ≡ bit_at x j) n none here j (omega arith)

    at_n : (bit_at x n ≡ 0) ⊎ (bit_at x n ≡ 1) → (bit_at y n ≡ 0) ⊎ (bit_at y n ≡ 1) → ((j : ℕ) → j < n → bit_at (bit_or x y) j ≡ bit_at x j) → ((j : ℕ) × (j < suc n) × (bit_at y j ≡ 1) × (bit_at x j ≡ 0)) ⊎ ((j : ℕ) → j < suc n → bit_at (bit_or x y) j ≡ bit_at x j)
    at_n (inl zero_x) (inr one_y) none = inl (n, omega arith, one_y, zero_x)
    at_n (inr one_x) either none = inr (all_below none (bit_at_or x y n ∙ omega (arith, bit_at-lt y n)))
    at_n (inl zero_x) (inl zero_y) none = inr (all_below none (bit_at_or x y n ∙ omega arith))

-- a word that a join changes has a new bit
new_bit : (x y : ℕ) → y < 2 ^ 64 → (bit_or x y ≡ x → ⊥) → (j : ℕ) × (j < 64) × (bit_at y j ≡ 1) × (bit_at x j ≡ 0)
new_bit x y fits changes =
    elim (first_new x y 64) [
      | inl found ↦ found
      | inr none ↦ absurd (changes (same_from_bits (bit_or x y) x (λ i.
          elim (cases_lt i 64) [
            | inl low ↦ none i low
            | inr high ↦ bit_at_or x y i ∙ omega (arith, bit_at_above y 64 i fits high)
          ])))
    ]

-- the words of a row apart from those of another, or the same
abbrev pub AreApart : ℕ → ℕ → ℕ → Type 0
AreApart from into count = (from ≡ into) ⊎ ((from + count ≤ into) ⊎ (into + count ≤ from))

module _ (old new : List ℕ) (from into count i : ℕ) (m : IsJoinedTo old new from into i) (apart : AreApart from into count) (below : i < count) (short : into + count ≤ length old) (x y : ℕ) (read : x ≡ get_or new (into + i) x) (read' : y ≡ get_or new (from + i) y) (short' : from + count ≤ length old) where
  -- the words that are read are still those of before
  old_into : x ≡ get_or old (into + i) 0
  old_into = get_or_read new (into + i) x (omega (arith, m.long)) read 0 ∙ m.above (into + i) (omega arith)

  old_from : y ≡ get_or old (from + i) 0
  old_from =
      get_or_read new (from + i) y (omega (arith, m.long)) read' 0
      ∙ elim apart [
        | inl same ↦ m.above (from + i) (omega arith)
        | inr (inl before) ↦ m.below (from + i) (omega arith)
        | inr (inr behind) ↦ m.above (from + i) (omega arith)
      ]

  pub join_more : IsJoinedTo old (set new (into + i) (bit_or x y)) from into (i + 1)
  join_more = record {
    long = length-set new (into + i) (bit_or x y) ∙ m.long;
    joined = below_more (λ k. get_or (set new (into + i) (bit_or x y)) (into + k) 0 ≡ bit_or (get_or old (into + k) 0) (get_or old (from + k) 0)) i
        (λ k h. get_or-set_other new (into + i) (into + k) (bit_or x y) 0 (omega arith) ∙ m.joined k h)
        (get_or-set_same new (into + i) (bit_or x y) 0 (omega (arith, m.long)) ∙ rw (← old_into, ← old_from) refl);
    below = λ k h. get_or-set_other new (into + i) k (bit_or x y) 0 (omega arith) ∙ m.below k h;
    above = λ k h. get_or-set_other new (into + i) k (bit_or x y) 0 (omega arith) ∙ m.above k (omega arith);
  }

  pub adds_more : (added : Bool) → (added ≡ true → AddsBit old from into i) → y < 2 ^ 64 → (added || not (eqb (bit_or x y) x)) ≡ true → AddsBit old from into (i + 1)
  adds_more added before fits h =
      elim (or_cases added _ h) [
        | inl earlier ↦ let found = before earlier in (found.0, omega (arith, found.1), found.2, found.3)
        | inr now ↦
            let found = new_bit x y fits (eqb-false (bit_or x y) x (not-true _ now)) in
            (64 * i + found.0, omega (arith, found.1), bit_in_at old from i found.0 found.1 ∙ rw (← old_from) (eq-eqb _ 1 found.2), bit_in_at old into i found.0 found.1 ∙ rw (← old_into) (ne_eqb _ 1 (λ e. omega (arith, found.3))))
      ]

  pub same_more : (added : Bool) → (added ≡ false → new ≡ old) → (added || not (eqb (bit_or x y) x)) ≡ false → set new (into + i) (bit_or x y) ≡ old
  same_more added before h =
      let parts = or_parts added _ h in
      let stays : bit_or x y ≡ get_or new (into + i) x = eqb-true _ x (not-false _ parts.1) ∙ read in
      ap (set new (into + i)) stays ∙ set-get_or new (into + i) x ∙ before parts.0

-- all words are joined
pub joined_all : (old new : List ℕ) (from into count : ℕ) → IsJoinedTo old new from into count → IsJoined old new from into count
joined_all old new from into count m = record {
  long = m.long;
  joined = λ k h.
      let there : (64 * into + k) / 64 ≡ into + k / 64 = omega arith in
      let here : (64 * from + k) / 64 ≡ from + k / 64 = omega arith in
      let place : (64 * into + k) % 64 ≡ k % 64 = omega arith in
      let place' : (64 * from + k) % 64 ≡ k % 64 = omega arith in
      rw (there, here, place, place', m.joined (k / 64) (omega arith)) (bit_in-or _ _ (k % 64));
  below = λ k h. ap (λ w. eqb (bit_at w (k % 64)) 1) (m.below (k / 64) (omega arith));
  above = λ k h. ap (λ w. eqb (bit_at w (k % 64)) 1) (m.above (k / 64) (omega arith));
}

-- where a search for the first bit from `from` on stands: in the word at `at`, less the bits before `from`
pub record LooksAt (words : List ℕ) (from end at word : ℕ) : Type 0 where
  pub inside : at < end
  pub none : AreClear words from (64 * at)
  pub bits : (i : ℕ) → i < 64 → from ≤ 64 * at + i → bit_at word i ≡ bit_at (get_or words at 0) i
  pub before : (i : ℕ) → i < 64 → 64 * at + i < from → bit_at word i ≡ 0

-- `words[from / 64] & (u64::MAX << (from % 64))`
pub look_first : (words : List ℕ) (from end : ℕ) → from / 64 < end → LooksAt words from end (from / 64) (bit_and (get_or words (from / 64) 0) (18446744073709551615 * 2 ^ (from % 64) % 18446744073709551616))
look_first words from end inside =
    let mask : 18446744073709551615 * 2 ^ (from % 64) % 18446744073709551616 ≡ 2 ^ 64 - 2 ^ (from % 64) = ones_shl 64 (from % 64) (omega arith) in
    let w = get_or words (from / 64) 0 in
    rw mask (record {
      inside = inside;
      none = λ k h l. absurd (omega arith);
      bits = λ i h behind. bit_at_and w (2 ^ 64 - 2 ^ (from % 64)) i ∙ omega (arith, bit_at_mask_inside (from % 64) 64 i (omega arith) h, bit_at-lt w i);
      before = λ i h low. bit_at_and w (2 ^ 64 - 2 ^ (from % 64)) i ∙ omega (arith, bit_at_mask_below (from % 64) 64 i (omega arith));
    })

bit_in_word : (words : List ℕ) (at i : ℕ) → i < 64 → bit_in words (64 * at + i) ≡ eqb (bit_at (get_or words at 0) i) 1
bit_in_word words at i below =
    let word : (64 * at + i) / 64 ≡ at = omega arith in
    let place : (64 * at + i) % 64 ≡ i = omega arith in
    rw (word, place)

module _ (words : List ℕ) (from end at word : ℕ) (m : LooksAt words from end at word) where
  clear_at : (k : ℕ) → from ≤ k → (64 * at ≤ k → k < 64 * at + 64) → (64 * at ≤ k → bit_at word (k - 64 * at) ≡ 0) → bit_in words k ≡ false
  clear_at k behind near clear =
      elim (cases_lt k (64 * at)) [
        | inl earlier ↦ m.none k behind earlier
        | inr here ↦
            let place : k ≡ 64 * at + (k - 64 * at) = omega arith in
            let low : k - 64 * at < 64 = omega (arith, near here) in
            let same : bit_at word (k - 64 * at) ≡ bit_at (get_or words at 0) (k - 64 * at) = m.bits (k - 64 * at) low (omega arith) in
            ap (bit_in words) place ∙ bit_in_word words at (k - 64 * at) low ∙ ne_eqb _ 1 (λ e. omega (arith, clear here, same))
      ]

  -- no bit of the word is 1
  pub none_here : word ≡ 0 → AreClear words from (64 * (at + 1))
  none_here none k behind before = clear_at k behind (λ _. omega arith) (λ h. ap (λ w. bit_at w (k - 64 * at)) none ∙ bit_at-zero (k - 64 * at))

  -- the next word
  pub look_next : word ≡ 0 → at + 1 < end → from / 64 ≤ at → LooksAt words from end (at + 1) (get_or words (at + 1) 0)
  look_next none inside behind = record {
    inside = inside;
    none = none_here none;
    bits = λ i h b. refl;
    before = λ i h low. absurd (omega arith);
  }

  -- the lowest bit of the word that is 1
  pub found_here : 0 < word → word < 2 ^ 64 → IsFirstBit words from (64 * end) (64 * at + trailing_zeros w64 word)
  found_here some fits =
      let found = bit_at-trailing_zeros w64 word some fits in
      let j : ℕ = trailing_zeros w64 word in
      let low : j < 64 = found.0 in
      let one : bit_at word j ≡ 1 = found.1 in
      let behind : from ≤ 64 * at + j =
      elim (cases_lt (64 * at + j) from) [ inl before ↦ absurd (omega (arith, m.before j low before)) | inr after ↦ after ] in
      record {
        behind = behind;
        before = omega (arith, m.inside);
        set = bit_in_word words at j low ∙ eq-eqb _ 1 (sym (m.bits j low behind) ∙ one);
        first = λ k h before. clear_at k h (λ _. omega arith) (λ here. found.2 (k - 64 * at) (omega arith));
      }
