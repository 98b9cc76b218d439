-- The file of --externs: lines, each empty or one identifier of at most 255 bytes (C99 6.4.2.1). The
-- last line may lack its newline.
use Rattle.std.specs.Prelude.{ℕ, ◌+◌, Bool, false, ◌&&◌, ◌==◌, not, nat_le, List, [], ◌∷◌, length, if◌then◌else◌}
use Rattle.std.specs.Char.{is_ascii_digit}
use Rattle.std.specs.List.{list_all}
use Rattle.lk_lex.specs.Ascii.{new_line}
use Rattle.lk_lex.specs.Bytes.{is_word_byte}
use Rattle.lk_sources.specs.declared.reading.Source.{Source}

-- the bytes of the file; none where the command names none
abbrev pub externs_text : List Source → List ℕ
externs_text [] = []
externs_text (file ∷ files) = file.bytes

-- a byte more at the front of the first line
abbrev pub longer : ℕ → List (List ℕ) → List (List ℕ)
longer b [] = (b ∷ []) ∷ []
longer b (line ∷ lines) = (b ∷ line) ∷ lines

-- the lines of a text; what stands behind the last newline is one more, which may be empty
abbrev pub lines : List ℕ → List (List ℕ)
lines [] = [] ∷ []
lines (b ∷ text) = if b == new_line then [] ∷ lines text else longer b (lines text)

-- a letter or `_`, then letters, digits and `_`, at most 255 in all (C99 6.4.2.1)
abbrev pub is_identifier : List ℕ → Bool
is_identifier [] = false
is_identifier (b ∷ text) =
    not (is_ascii_digit b) && (list_all is_word_byte (b ∷ text) && nat_le (length (b ∷ text)) 255)

-- the names that lines list, or the number of the first line that is neither empty nor an identifier
pub data Listed : Type 0 where
  Names : List (List ℕ) → Listed
  BadLine : ℕ → Listed

abbrev pub with_first : List ℕ → Listed → Listed
with_first name (Names names) = Names (name ∷ names)
with_first name (BadLine line) = BadLine line

-- of lines of which the first has this number
abbrev pub listed_from : ℕ → List (List ℕ) → Listed
listed_from number [] = Names []
listed_from number ([] ∷ others) = listed_from (number + 1) others
listed_from number ((b ∷ text) ∷ others) =
    if is_identifier (b ∷ text) then with_first (b ∷ text) (listed_from (number + 1) others)
    else BadLine number

-- of a text
abbrev pub listed : List ℕ → Listed
listed text = listed_from 1 (lines text)
