-- The conversions between integer kinds (C99 6.3.1).
use Rattle.std.specs.Prelude.{ℕ, ◌^◌, Bool, not, ◌&&◌, if◌then◌else◌, nat_lt, nat_le, ℤ, pos, ◌-ℤ◌, unsigned_abs}
use Rattle.std.specs.Bool.{beq}
use Rattle.std.specs.Int.{int_rem_euclid}
use Rattle.std.specs.Ordering.{int_eq}
use Rattle.lk_base.specs.declared.kind.Kind.{Kind}
use Rattle.lk_base.specs.declared.kind.Kind.TheVariants as kind
use Rattle.lk_arith.specs.Kinds.{width, is_signed, least, greatest, is_value}

-- 1 for what holds, else 0
abbrev pub truth : Bool → ℤ
truth b = if b then pos 1 else pos 0

abbrev pub is_zero : ℤ → Bool
is_zero a = int_eq a (pos 0)

-- how many numbers the bits of a kind can tell apart
abbrev pub size : Kind → ℤ
size k = pos (2 ^ width k)

-- the low bits of a number in two's complement, as many as the kind has: the number
-- modulo 2 to the width (C99 6.2.6.2)
abbrev pub bits_of : Kind → ℤ → ℕ
bits_of k a = unsigned_abs (int_rem_euclid a (size k))

-- the value of the kind that has these bits
abbrev pub from_bits : Kind → ℕ → ℤ
from_bits k n = if is_value k (pos n) then pos n else pos n -ℤ size k

-- the value of the kind that has the low bits of the number (C99 6.3.1.3; so do the signed kinds here)
abbrev pub by_low_bits : Kind → ℤ → ℤ
by_low_bits k a = from_bits k (bits_of k a)

-- the number converted: to _Bool, whether it isn't zero (C99 6.3.1.2); to any other kind,
-- by its low bits (C99 6.3.1.3)
unfoldable pub convert : Kind → ℤ → ℤ
convert kind.Bool a = truth (not (is_zero a))
convert kind.Char a = by_low_bits kind.Char a
convert kind.SChar a = by_low_bits kind.SChar a
convert kind.UChar a = by_low_bits kind.UChar a
convert kind.Short a = by_low_bits kind.Short a
convert kind.UShort a = by_low_bits kind.UShort a
convert kind.Int a = by_low_bits kind.Int a
convert kind.UInt a = by_low_bits kind.UInt a
convert kind.Long a = by_low_bits kind.Long a
convert kind.ULong a = by_low_bits kind.ULong a
convert kind.LLong a = by_low_bits kind.LLong a
convert kind.ULLong a = by_low_bits kind.ULLong a

-- the conversion rank, as a number (C99 6.3.1.1, 1)
abbrev pub rank : Kind → ℕ
rank kind.Bool = 0
rank kind.Char = 1
rank kind.SChar = 1
rank kind.UChar = 1
rank kind.Short = 2
rank kind.UShort = 2
rank kind.Int = 3
rank kind.UInt = 3
rank kind.Long = 4
rank kind.ULong = 4
rank kind.LLong = 5
rank kind.ULLong = 5

-- whether the first kind has all values of the second one: both its ends
abbrev pub holds_all : Kind → Kind → Bool
holds_all k j = is_value k (least j) && is_value k (greatest j)

-- the integer promotions (C99 6.3.1.1, 2): a kind of lower rank than int becomes int where that has all
-- its values, else unsigned int
unfoldable pub promoted : Kind → Kind
promoted k =
    if nat_lt (rank k) (rank kind.Int) then (if holds_all kind.Int k then kind.Int else kind.UInt) else k

-- the unsigned kind of the same rank (C99 6.2.5, 6)
abbrev pub unsigned_of : Kind → Kind
unsigned_of kind.Bool = kind.Bool
unsigned_of kind.Char = kind.UChar
unsigned_of kind.SChar = kind.UChar
unsigned_of kind.UChar = kind.UChar
unsigned_of kind.Short = kind.UShort
unsigned_of kind.UShort = kind.UShort
unsigned_of kind.Int = kind.UInt
unsigned_of kind.UInt = kind.UInt
unsigned_of kind.Long = kind.ULong
unsigned_of kind.ULong = kind.ULong
unsigned_of kind.LLong = kind.ULLong
unsigned_of kind.ULLong = kind.ULLong

-- of an unsigned kind and a signed one: the unsigned one where its rank isn't lower; else the signed one
-- where it has all values of the unsigned one; else the unsigned kind of the signed one
abbrev pub mixed_kind : Kind → Kind → Kind
mixed_kind u s = if nat_le (rank s) (rank u) then u else if holds_all s u then s else unsigned_of s

-- the common kind of two promoted kinds: of equal signs, the one of the greater rank
abbrev pub common_kind : Kind → Kind → Kind
common_kind a b =
    if beq (is_signed a) (is_signed b) then (if nat_lt (rank a) (rank b) then b else a)
    else if is_signed a then mixed_kind b a else mixed_kind a b

-- the usual arithmetic conversions (C99 6.3.1.8)
unfoldable pub usual : Kind → Kind → Kind
usual a b = common_kind (promoted a) (promoted b)
