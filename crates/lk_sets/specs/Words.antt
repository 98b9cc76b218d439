-- Rows of bits in one list of words of 64 bits, the low bit of a word first.
use Rattle.std.specs.Prelude.{ℕ, Bool, true, false, ◌||◌, List, ◌≡◌, ◌+◌, ◌*◌, ◌/◌, ◌%◌, ◌==◌, ◌<◌, ◌≤◌, map, length, slice_index}
use Rattle.std.specs.Int.{bit_at}
use Rattle.std.specs.List.{filter, range_with_len}

-- whether bit k is 1, counted over all words
abbrev pub bit_in : List ℕ → ℕ → Bool
bit_in words k = bit_at (slice_index words (k / 64)) (k % 64) == 1

-- Of `count` words from place `into` on, each has the bits of its own and of the word as far from place
-- `from`. The others are as before.
pub record IsJoined (old new : List ℕ) (from into count : ℕ) : Type 0 where
  pub long : length new ≡ length old
  pub joined : (k : ℕ) → k < 64 * count →
      bit_in new (64 * into + k) ≡ (bit_in old (64 * into + k) || bit_in old (64 * from + k))
  pub below : (k : ℕ) → k < 64 * into → bit_in new k ≡ bit_in old k
  pub above : (k : ℕ) → 64 * (into + count) ≤ k → bit_in new k ≡ bit_in old k

-- some bit of the words from `from` on is 1 where that of the words from `into` on is 0
abbrev pub AddsBit : List ℕ → ℕ → ℕ → ℕ → Type 0
AddsBit words from into count =
    (k : ℕ) × (k < 64 * count) × (bit_in words (64 * from + k) ≡ true)
    × (bit_in words (64 * into + k) ≡ false)

-- no bit is 1 from a place up to another
abbrev pub AreClear : List ℕ → ℕ → ℕ → Type 0
AreClear words from end = (k : ℕ) → from ≤ k → k < end → bit_in words k ≡ false

-- the first bit that is 1, from a place up to another
pub record IsFirstBit (words : List ℕ) (from end k : ℕ) : Type 0 where
  pub behind : from ≤ k
  pub before : k < end
  pub set : bit_in words k ≡ true
  pub first : AreClear words from k

-- how many words a row of n bits takes
abbrev pub width_of : ℕ → ℕ
width_of n = (n + 63) / 64

-- the place of bit b of row a
abbrev pub place_of : ℕ → ℕ → ℕ → ℕ
place_of n a b = 64 * (a * width_of n) + b

-- the numbers below n whose bits are 1 in row a
abbrev pub row_in : ℕ → List ℕ → ℕ → List ℕ
row_in n words a = filter (λ b. bit_in words (place_of n a b)) (range_with_len 0 n)

-- the rows of a square of n bits by n
unfoldable pub rows_in : ℕ → List ℕ → List (List ℕ)
rows_in n words = map (row_in n words) (range_with_len 0 n)

-- The words are those of a square: each row has its words, and no bit is 1 behind the n-th.
pub record IsRows (n : ℕ) (words : List ℕ) : Type 0 where
  pub small : n ≤ 65536
  pub long : length words ≡ n * width_of n
  pub clear : (a b : ℕ) → a < n → n ≤ b → b < 64 * width_of n → bit_in words (place_of n a b) ≡ false
