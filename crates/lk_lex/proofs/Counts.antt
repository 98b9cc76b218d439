-- How the counts of bytes go on from byte to byte.
use Rattle.std.proofs.Common.{◌≡◌, ℕ, ◌+◌, ◌*◌, ◌<◌, ◌≤◌, ◌^◌, true, false, List, [], ◌∷◌, length, drop, get_or, nat_le, None, refl, arith}
use Rattle.std.specs.Char.{digit_value}
use Rattle.std.specs.List.{find}
use Rattle.std.proofs.lemmas.List.{at_drop_more, at_drop_all}
use Rattle.lk_lex.specs.declared.base.Base.{Base}
use Rattle.lk_lex.specs.declared.base.Base.TheVariants as b
use Rattle.std.proofs.lemmas.Bool.Decides.{nat_tests}
use Rattle.lk_base.specs.declared.kind.Kind.{Kind}
use Rattle.lk_base.specs.declared.kind.Kind.TheVariants as k
use Rattle.lk_lex.specs.declared.number.Suffix.{Suffix}
use Rattle.lk_lex.specs.Numbers.{goes_on, number_len, radix, value_from, greatest, kinds, is_decimal, kind_of}

pub number_len-on : (before : ℕ) (bytes : List ℕ) (i : ℕ) → i < length bytes → goes_on before (get_or bytes i 0) ≡ true
    → number_len before (drop i bytes) ≡ 1 + number_len (get_or bytes i 0) (drop (i + 1) bytes)
unfolding number_len
number_len-on before bytes i there goes = rw (at_drop_more (number_len before) bytes i 0 there, goes) refl

pub number_len-stop : (before : ℕ) (bytes : List ℕ) (i : ℕ) → i < length bytes → goes_on before (get_or bytes i 0) ≡ false → number_len before (drop i bytes) ≡ 0
unfolding number_len
number_len-stop before bytes i there stops = rw (at_drop_more (number_len before) bytes i 0 there, stops) refl

pub number_len-end : (before : ℕ) (bytes : List ℕ) (i : ℕ) → length bytes ≤ i → number_len before (drop i bytes) ≡ 0
unfolding number_len
number_len-end before bytes i there = at_drop_all (number_len before) bytes i there

-- more digits make no value less
pub value_from-grows : (base : Base) (value : ℕ) (digits : List ℕ) → 1 ≤ radix base → value ≤ value_from base value digits
value_from-grows base value [] some = omega arith
value_from-grows base value (d ∷ ds) some =
    let more = value_from-grows base (value * radix base + digit_value d) ds some in
    let here : value ≤ value * radix base + digit_value d = grind arith in
    omega arith

pub radix-positive : (base : Base) → 1 ≤ radix base
radix-positive b.Octal = omega arith
radix-positive b.Decimal = omega arith
radix-positive b.Hexadecimal = omega arith

-- where one more digit makes the value too great, the whole is too great
pub too_great : (base : Base) (value all : ℕ) (digits : List ℕ) (i : ℕ) → i < length digits → value_from base value (drop i digits) ≡ all
    → ¬ (value * radix base + digit_value (get_or digits i 0) < 2 ^ 64) → ¬ (all < 2 ^ 64)
too_great base value all digits i there whole great small =
    let on = at_drop_more (value_from base value) digits i 0 there in
    let more = value_from-grows base (value * radix base + digit_value (get_or digits i 0)) (drop (i + 1) digits) (radix-positive base) in
    great (omega (arith, on, more, whole, small))

greatest_fits : (kind : Kind) → greatest kind < 2 ^ 64
greatest_fits k.Int = omega arith
greatest_fits k.UInt = omega arith
greatest_fits k.Long = omega arith
greatest_fits k.ULong = omega arith
greatest_fits k.LLong = omega arith
greatest_fits k.ULLong = omega arith
greatest_fits k.Bool = omega arith
greatest_fits k.Char = omega arith
greatest_fits k.SChar = omega arith
greatest_fits k.UChar = omega arith
greatest_fits k.Short = omega arith
greatest_fits k.UShort = omega arith

none_holds : (value : ℕ) (kinds : List Kind) → ¬ (value < 2 ^ 64) → find (λ kind. nat_le value (greatest kind)) kinds ≡ None
none_holds value [] great = refl
none_holds value (kind ∷ kinds) great = rw (no, none_holds value kinds great) refl
  where
    no : nat_le value (greatest kind) ≡ false
    no = let fits = greatest_fits kind in let above : ¬ (value ≤ greatest kind) = λ small. great (omega arith) in grind (arith, nat_tests)

-- no kind holds a value past 64 bits
pub kind_of-none : (base : Base) (of : Suffix) (value : ℕ) → ¬ (value < 2 ^ 64) → kind_of base of value ≡ None
unfolding kind_of
kind_of-none base of value great = none_holds value (kinds of.unsigned of.length (is_decimal base)) great

pub past_small : (value : ℕ) → 2147483647 < value → nat_le value 2147483647 ≡ false
past_small value past = grind (arith, nat_tests)

pub is_small : (value : ℕ) → value ≤ 2147483647 → nat_le value 2147483647 ≡ true
is_small value small = grind (arith, nat_tests)

pub not_small : (value : ℕ) → ¬ (value < 2 ^ 64) → nat_le value 2147483647 ≡ false
not_small value great = let past : 2147483647 < value = omega arith in past_small value past
