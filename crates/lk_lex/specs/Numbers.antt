-- Numbers: how far one goes (C99 6.4.8), its value and its kind (C99 6.4.4.1).
use Rattle.std.specs.Prelude.{ℕ, ◌+◌, ◌*◌, Bool, true, false, ◌&&◌, ◌||◌, ◌==◌, nat_le, nat_eq, if◌then◌else◌, List, [], ◌∷◌, length, take, drop, codes, Option, Some, None}
use Rattle.std.specs.Char.{is_ascii_digit, is_ascii_hexdigit, digit_value}
use Rattle.std.specs.Int.{is_in_range}
use Rattle.std.specs.List.{list_any, find, fold, prefix_len, starts_with}
use Rattle.std.specs.Str.{bytes_eq}
use Rattle.std.specs.Option.{option_map, option_and_then}
use Rattle.lk_base.specs.declared.kind.Kind.{Kind}
use Rattle.lk_base.specs.declared.kind.Kind.TheVariants as k
use Rattle.lk_lex.specs.declared.base.Base.{Base}
use Rattle.lk_lex.specs.declared.base.Base.TheVariants as b
use Rattle.lk_lex.specs.declared.number.Length.{Length}
use Rattle.lk_lex.specs.declared.number.Length.TheVariants as l
use Rattle.lk_lex.specs.declared.number.Suffix.{Suffix}
use Rattle.lk_lex.specs.declared.number.Number.{Number}
use Rattle.lk_lex.specs.Ascii.{plus, minus, dot, digit_0, digit_7, letter_e, capital_E, letter_p, capital_P}
use Rattle.lk_lex.specs.Bytes.{is_word_byte}

-- whether a preprocessing number goes on with this byte, by the byte before it
abbrev pub goes_on : ℕ → ℕ → Bool
goes_on before b =
    is_word_byte b || (b == dot)
    || ((b == plus || (b == minus)) && (before == letter_e || (before == capital_E) || (before == letter_p) || (before == capital_P)))

-- how many bytes a preprocessing number has from here on, by the byte before them
unfoldable pub number_len : ℕ → List ℕ → ℕ
number_len before [] = 0
number_len before (b ∷ bs) = if goes_on before b then 1 + number_len b bs else 0

abbrev pub radix : Base → ℕ
radix b.Octal = 8
radix b.Decimal = 10
radix b.Hexadecimal = 16

abbrev pub is_digit_of : Base → ℕ → Bool
is_digit_of b.Octal c = is_in_range digit_0 digit_7 c
is_digit_of b.Decimal c = is_ascii_digit c
is_digit_of b.Hexadecimal c = is_ascii_hexdigit c

abbrev pub digits_len : Base → List ℕ → ℕ
digits_len base bytes = prefix_len (is_digit_of base) bytes

-- the value that digits write, behind digits of this value
abbrev pub value_from : Base → ℕ → List ℕ → ℕ
value_from base value digits = fold (λ v d. v * radix base + digit_value d) value digits

unfoldable pub value_of : Base → List ℕ → ℕ
value_of base digits = value_from base 0 digits

abbrev pub is_one_of : List ℕ → List (List ℕ) → Bool
is_one_of text texts = list_any (bytes_eq text) texts

abbrev pub with_suffix : Bool → Length → Option Suffix
with_suffix unsigned length = Some (record { unsigned = unsigned; length = length })

-- the suffix that these bytes are, where they are one: both letters of `ll` have one case
unfoldable pub suffix_of : List ℕ → Option Suffix
suffix_of bytes =
    if length bytes == 0 then with_suffix false l.Plain
    else if is_one_of bytes (codes "u" ∷ codes "U" ∷ []) then with_suffix true l.Plain
    else if is_one_of bytes (codes "l" ∷ codes "L" ∷ []) then with_suffix false l.Long
    else if is_one_of bytes (codes "ll" ∷ codes "LL" ∷ []) then with_suffix false l.LongLong
    else if is_one_of bytes (codes "ul" ∷ codes "uL" ∷ codes "Ul" ∷ codes "UL" ∷ codes "lu" ∷ codes "lU" ∷
    codes "Lu" ∷ codes "LU" ∷ []) then with_suffix true l.Long
    else if is_one_of bytes (codes "ull" ∷ codes "uLL" ∷ codes "Ull" ∷ codes "ULL" ∷ codes "llu" ∷
    codes "llU" ∷ codes "LLu" ∷ codes "LLU" ∷ []) then with_suffix true l.LongLong
    else None

-- the greatest value of a kind (C99 5.2.4.2.1)
abbrev pub greatest : Kind → ℕ
greatest k.Bool = 1
greatest k.Char = 127
greatest k.SChar = 127
greatest k.UChar = 255
greatest k.Short = 32767
greatest k.UShort = 65535
greatest k.Int = 2147483647
greatest k.UInt = 4294967295
greatest k.Long = 9223372036854775807
greatest k.ULong = 18446744073709551615
greatest k.LLong = 9223372036854775807
greatest k.ULLong = 18446744073709551615

-- the list of C99 6.4.4.1, 5: by whether a suffix says unsigned, by the suffix's length, and
-- by whether the base is decimal
abbrev pub kinds : Bool → Length → Bool → List Kind
kinds false l.Plain true = k.Int ∷ k.Long ∷ k.LLong ∷ []
kinds false l.Plain false = k.Int ∷ k.UInt ∷ k.Long ∷ k.ULong ∷ k.LLong ∷ k.ULLong ∷ []
kinds true l.Plain decimal = k.UInt ∷ k.ULong ∷ k.ULLong ∷ []
kinds false l.Long true = k.Long ∷ k.LLong ∷ []
kinds false l.Long false = k.Long ∷ k.ULong ∷ k.LLong ∷ k.ULLong ∷ []
kinds true l.Long decimal = k.ULong ∷ k.ULLong ∷ []
kinds false l.LongLong true = k.LLong ∷ []
kinds false l.LongLong false = k.LLong ∷ k.ULLong ∷ []
kinds true l.LongLong decimal = k.ULLong ∷ []

abbrev pub is_decimal : Base → Bool
is_decimal b.Decimal = true
is_decimal b.Octal = false
is_decimal b.Hexadecimal = false

-- the first kind of the list that holds the value
unfoldable pub kind_of : Base → Suffix → ℕ → Option Kind
kind_of base of value =
    find (λ kind. nat_le value (greatest kind)) (kinds of.unsigned of.length (is_decimal base))

-- a number of this kind and value
abbrev pub with_kind : ℕ → Kind → Number
with_kind value kind = record { kind = kind; value = value }

-- the constant of these digits and this suffix
unfoldable pub constant_of : Base → List ℕ → List ℕ → Option Number
constant_of base digits rest =
    if length digits == 0 then None
    else option_and_then (λ of. option_map (with_kind (value_of base digits)) (kind_of base of (value_of base digits))) (suffix_of rest)

-- digits of the base, at least one, and a suffix
abbrev pub constant : Base → List ℕ → Option Number
constant base text = let n = digits_len base text in constant_of base (take n text) (drop n text)

-- the base that the front of a constant tells: `0x` or `0X`, else a `0`, else none of them
abbrev pub is_hexadecimal : List ℕ → Bool
is_hexadecimal text = starts_with nat_eq text (codes "0x") || starts_with nat_eq text (codes "0X")

abbrev pub is_octal : List ℕ → Bool
is_octal text = starts_with nat_eq text (codes "0")

-- the integer constant that the text is, where it is one
unfoldable pub number_of : List ℕ → Option Number
number_of text = if is_hexadecimal text then constant b.Hexadecimal (drop 2 text) else if is_octal text
    then constant b.Octal text else constant b.Decimal text
