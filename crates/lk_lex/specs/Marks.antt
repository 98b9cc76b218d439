-- Lines that begin with `#`: line marks, as the preprocessor leaves them, and pragmas (C99 6.10.4, 6.10.6).
use Rattle.std.specs.Prelude.{ℕ, Bool, ◌||◌, ◌==◌, nat_eq, nat_le, nat_lt, if◌then◌else◌, List, length, take, drop, codes, Option, Some, None}
use Rattle.std.specs.Char.{is_ascii_digit}
use Rattle.std.specs.List.{list_all, starts_with}
use Rattle.std.specs.Str.{bytes_eq}
use Rattle.std.specs.Option.{option_map, option_and_then}
use Rattle.lk_lex.specs.declared.base.Base.TheVariants as b
use Rattle.lk_lex.specs.declared.mark.Mark.{Mark}
use Rattle.lk_lex.specs.declared.mark.Directive.{Directive}
use Rattle.lk_lex.specs.declared.mark.Directive.TheVariants as d
use Rattle.lk_lex.specs.declared.quoted.Quotation.TheVariants as q
use Rattle.lk_lex.specs.Bytes.{is_blank, word_len, past_blanks}
use Rattle.lk_lex.specs.Characters.{quoted_len, quoted_bytes}
use Rattle.lk_lex.specs.Numbers.{value_of}

abbrev pub is_flag_byte : ℕ → Bool
is_flag_byte c = is_ascii_digit c || is_blank c

-- the next line is the line of this number in the file of this name, or in the same file
abbrev pub mark_of : ℕ → Option (List ℕ) → Mark
mark_of line name = record { line = line; name = name }

-- digits of a number that is at most 2,147,483,647
unfoldable pub line_number : List ℕ → Option ℕ
line_number word =
    if length word == 0 then None else if list_all is_ascii_digit word
    then (if nat_le (value_of b.Decimal word) 2147483647 then Some (value_of b.Decimal word) else None)
    else None

abbrev pub with_name_of : ℕ → List ℕ → Option Mark
with_name_of line name = if nat_lt 255 (length name) then None else Some (mark_of line (Some name))

-- the name and the flags, by what stands behind the opening quote: the name has at most 255 bytes
unfoldable pub named_mark : ℕ → List ℕ → Option Mark
named_mark line bytes =
    option_and_then (λ n. if list_all is_flag_byte (drop n bytes) then with_name_of line
    (quoted_bytes q.FileName 0 bytes) else None) (quoted_len q.FileName 0 bytes)

-- a mark of this line, by what stands behind its number
unfoldable pub numbered_mark : ℕ → List ℕ → Option Mark
numbered_mark line bytes =
    if length bytes == 0 then Some (mark_of line None)
    else if starts_with nat_eq bytes (codes "\"") then named_mark line (drop 1 bytes) else None

-- a mark, by what stands from its number on
unfoldable pub mark : List ℕ → Option Mark
mark bytes = let n = word_len bytes in
    option_and_then (λ line. numbered_mark line (past_blanks (drop n bytes))) (line_number (take n bytes))

-- what the line says, by what stands behind its `#`: `pragma`, or a mark with or without `line`
unfoldable pub directive : List ℕ → Option Directive
directive line = let rest = past_blanks line in let n = word_len rest in let word = take n rest in
    if bytes_eq word (codes "pragma") then Some d.Pragma
    else if bytes_eq word (codes "line") then option_map d.Mark (mark (past_blanks (drop n rest)))
    else option_map d.Mark (mark rest)
