-- Classes of bytes, and runs of them.
use Rattle.std.specs.Prelude.{ℕ, Bool, ◌||◌, ◌==◌, not, List, drop}
use Rattle.std.specs.Char.{is_ascii_alphanumeric}
use Rattle.std.specs.Int.{is_in_range}
use Rattle.std.specs.List.{prefix_len}
use Rattle.lk_lex.specs.Ascii.{tab, new_line, carriage_return, space, underscore}

-- horizontal tab, new line, vertical tab, form feed, carriage return and space (C99 5.2.1)
abbrev pub is_blank : ℕ → Bool
is_blank b = is_in_range tab carriage_return b || (b == space)

-- a letter, a digit or `_` (C99 6.4.2.1)
abbrev pub is_word_byte : ℕ → Bool
is_word_byte b = is_ascii_alphanumeric b || (b == underscore)

abbrev pub is_in_line : ℕ → Bool
is_in_line b = not (b == new_line)

-- how many bytes there are before the line's end
abbrev pub line_len : List ℕ → ℕ
line_len bytes = prefix_len is_in_line bytes

abbrev pub word_len : List ℕ → ℕ
word_len bytes = prefix_len is_word_byte bytes

abbrev pub blanks_len : List ℕ → ℕ
blanks_len bytes = prefix_len is_blank bytes

-- what stands behind the blanks in front
abbrev pub past_blanks : List ℕ → List ℕ
past_blanks bytes = drop (blanks_len bytes) bytes
