-- The integer kinds of C: how wide they are, and which values they have.
use Rattle.std.specs.Prelude.{ℕ, ◌-◌, ◌^◌, Bool, true, false, ◌&&◌, if◌then◌else◌, IsTrue, ℤ, pos, neg_ℤ, int_le}
use Rattle.lk_base.specs.declared.kind.Kind.{Kind}
use Rattle.lk_base.specs.declared.kind.Kind.TheVariants as kind

-- how many bits a value has, the sign bit counted (C99 6.2.6.2)
abbrev pub width : Kind → ℕ
width kind.Bool = 1
width kind.Char = 8
width kind.SChar = 8
width kind.UChar = 8
width kind.Short = 16
width kind.UShort = 16
width kind.Int = 32
width kind.UInt = 32
width kind.Long = 64
width kind.ULong = 64
width kind.LLong = 64
width kind.ULLong = 64

-- how many bytes an object of the kind has (C99 6.5.3.4)
abbrev pub bytes_of : Kind → ℕ
bytes_of kind.Bool = 1
bytes_of kind.Char = 1
bytes_of kind.SChar = 1
bytes_of kind.UChar = 1
bytes_of kind.Short = 2
bytes_of kind.UShort = 2
bytes_of kind.Int = 4
bytes_of kind.UInt = 4
bytes_of kind.Long = 8
bytes_of kind.ULong = 8
bytes_of kind.LLong = 8
bytes_of kind.ULLong = 8

-- whether it has negative values (C99 6.2.5, 4 and 6); a plain char does here
abbrev pub is_signed : Kind → Bool
is_signed kind.Bool = false
is_signed kind.Char = true
is_signed kind.SChar = true
is_signed kind.UChar = false
is_signed kind.Short = true
is_signed kind.UShort = false
is_signed kind.Int = true
is_signed kind.UInt = false
is_signed kind.Long = true
is_signed kind.ULong = false
is_signed kind.LLong = true
is_signed kind.ULLong = false

-- the bits beside the sign bit (C99 6.2.6.2, 1 and 2)
abbrev pub value_bits : Kind → ℕ
value_bits k = if is_signed k then width k - 1 else width k

-- the ends of its values in two's complement (C99 6.2.6.2, 1 and 2)
abbrev pub least : Kind → ℤ
least k = if is_signed k then neg_ℤ (pos (2 ^ value_bits k)) else pos 0

abbrev pub greatest : Kind → ℤ
greatest k = pos (2 ^ value_bits k - 1)

-- whether the kind has the number
abbrev pub is_value : Kind → ℤ → Bool
is_value k a = int_le (least k) a && int_le a (greatest k)

abbrev pub IsValue : Kind → ℤ → Type 0
IsValue k a = IsTrue (is_value k a)
