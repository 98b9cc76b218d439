-- Escapes, characters and texts (C99 6.4.4.4, 6.4.5), and the names of files in line marks.
use Rattle.std.specs.Prelude.{ℕ, zero, suc, ◌+◌, ◌-◌, min, ℤ, pos, ◌-ℤ◌, Bool, not, ◌||◌, ◌==◌, nat_eq, nat_le, nat_lt, if◌then◌else◌, List, [], ◌∷◌, take, drop, codes, Option, Some, None}
use Rattle.std.specs.List.{starts_with}
use Rattle.std.specs.Option.{option_map, option_map_or, option_and_then}
use Rattle.lk_lex.specs.declared.base.Base.TheVariants as b
use Rattle.lk_lex.specs.declared.base.Base.{Base}
use Rattle.lk_lex.specs.declared.quoted.Item.{Item}
use Rattle.lk_lex.specs.declared.quoted.Quotation.{Quotation}
use Rattle.lk_lex.specs.declared.quoted.Quotation.TheVariants as q
use Rattle.lk_lex.specs.Ascii.{alert, backspace, tab, new_line, vertical_tab, form_feed, carriage_return, space, quote, apostrophe, question, backslash, letter_a, letter_b, letter_f, letter_n, letter_r, letter_t, letter_v, letter_x}
use Rattle.lk_lex.specs.Numbers.{is_digit_of, digits_len, value_of}

-- a character of this value, written with this many bytes
abbrev pub item_of : ℕ → ℕ → Item
item_of len value = record { len = len; value = value }

-- the value of these digits, where it is at most 255
unfoldable pub byte_of : Base → List ℕ → Option ℕ
byte_of base digits = if nat_le (value_of base digits) 255 then Some (value_of base digits) else None

-- C99 6.4.4.4, simple-escape-sequence, with the values of 5.2.2 in ASCII: the byte behind the backslash is
-- one of ' " ? \ a b f n r t v
abbrev pub simple_escape : ℕ → Option ℕ
simple_escape c =
    if c == apostrophe then Some apostrophe else if c == quote then Some quote else if c == question
    then Some question
    else if c == backslash then Some backslash
    else if c == letter_a then Some alert else if c == letter_b then Some backspace else if c == letter_f
    then Some form_feed
    else if c == letter_n then Some new_line else if c == letter_r then Some carriage_return
    else if c == letter_t then Some tab else if c == letter_v then Some vertical_tab
    else None

-- one to three octal digits behind a backslash
abbrev pub octal_escape : List ℕ → Option Item
octal_escape bytes = let n = min (digits_len b.Octal bytes) 3 in
    option_map (item_of (n + 1)) (byte_of b.Octal (take n bytes))

-- hexadecimal digits behind `\x`
abbrev pub hexadecimal_escape : List ℕ → Option Item
hexadecimal_escape bytes = let n = digits_len b.Hexadecimal bytes in
    if n == 0 then None else option_map (item_of (n + 2)) (byte_of b.Hexadecimal (take n bytes))

-- an escape, by what stands behind its backslash
abbrev pub escape_by : ℕ → List ℕ → Option Item
escape_by c bytes = if is_digit_of b.Octal c then octal_escape bytes else if c == letter_x
    then hexadecimal_escape (drop 1 bytes) else option_map (item_of 2) (simple_escape c)

unfoldable pub escape : List ℕ → Option Item
escape [] = None
escape (c ∷ cs) = escape_by c (c ∷ cs)

-- three octal digits behind a backslash in a line mark; the byte is not below a space
abbrev pub octal_name_escape : List ℕ → Option Item
octal_name_escape bytes =
    if nat_le 3 (digits_len b.Octal bytes)
    then option_and_then (λ value. if nat_le space value then Some (item_of 4 value) else None)
    (byte_of b.Octal (take 3 bytes)) else None

-- an escape in a line mark, by what stands behind its backslash: a backslash, a quote, or three octal digits
abbrev pub name_escape_by : ℕ → List ℕ → Option Item
name_escape_by c bytes =
    if c == backslash || (c == quote) then Some (item_of 2 c) else octal_name_escape bytes

unfoldable pub name_escape : List ℕ → Option Item
name_escape [] = None
name_escape (c ∷ cs) = name_escape_by c (c ∷ cs)

abbrev pub escape_in : Quotation → List ℕ → Option Item
escape_in q.Text bytes = escape bytes
escape_in q.FileName bytes = name_escape bytes

-- whether a byte other than a backslash stands for itself: in a text each but a new line, in a line mark
-- each that is not below a space
abbrev pub is_plain : Quotation → ℕ → Bool
is_plain q.Text c = not (c == new_line)
is_plain q.FileName c = nat_le space c

abbrev pub item_by : Quotation → ℕ → List ℕ → Option Item
item_by quotation c bytes =
    if c == backslash then escape_in quotation (drop 1 bytes) else if is_plain quotation c
    then Some (item_of 1 c) else None

-- the character in front
unfoldable pub item : Quotation → List ℕ → Option Item
item quotation [] = None
item quotation (c ∷ cs) = item_by quotation c (c ∷ cs)

-- how many bytes there are up to the closing quote and with it, where these bytes are characters and a quote.
-- The first number counts bytes of a character that has begun
unfoldable pub quoted_len : Quotation → ℕ → List ℕ → Option ℕ
quoted_len quotation begun [] = None
quoted_len quotation zero (c ∷ cs) =
    if c == quote then Some 1
    else option_and_then (λ first. option_map suc (quoted_len quotation (first.len - 1) cs))
    (item quotation (c ∷ cs))
quoted_len quotation (suc begun) (c ∷ cs) = option_map suc (quoted_len quotation begun cs)

-- the values of the characters up to the closing quote. The first number counts bytes
-- of a character that has begun
unfoldable pub quoted_bytes : Quotation → ℕ → List ℕ → List ℕ
quoted_bytes quotation begun [] = []
quoted_bytes quotation zero (c ∷ cs) =
    if c == quote then [] else option_map_or
    (λ first. first.value ∷ quoted_bytes quotation (first.len - 1) cs) (item quotation (c ∷ cs)) []
quoted_bytes quotation (suc begun) (c ∷ cs) = quoted_bytes quotation begun cs

-- the one character between single quotes, by what stands behind the first of them
unfoldable pub character : List ℕ → Option Item
character bytes =
    if starts_with nat_eq bytes (codes "'") then None
    else option_and_then (λ first. if starts_with nat_eq (drop first.len bytes) (codes "'") then Some first else None) (item q.Text bytes)

-- the value of a byte as a signed `char` of 8 bits
abbrev pub as_signed : ℕ → ℤ
as_signed value = if nat_lt value 128 then pos value else pos value -ℤ pos 256
