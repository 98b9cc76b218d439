-- What stands in front of bytes: a blank, a comment, a line mark or a token, each the longest that
-- can stand there (C99 6.4, 4).
use Rattle.std.specs.Prelude.{ℕ, suc, ◌+◌, Bool, ◌&&◌, ◌||◌, ◌==◌, nat_eq, nat_lt, if◌then◌else◌, List, [], ◌∷◌, length, take, drop, codes, Option, Some, None}
use Rattle.std.specs.List.{starts_with}
use Rattle.std.specs.Str.{bytes_eq}
use Rattle.std.specs.Option.{option_map, option_map_or}
use Rattle.lk_lex.specs.declared.base.Base.TheVariants as b
use Rattle.lk_lex.specs.declared.token.TokenKind.{TokenKind}
use Rattle.lk_lex.specs.declared.token.TokenKind.TheVariants as k
use Rattle.lk_lex.specs.declared.front.Front.{Front}
use Rattle.lk_lex.specs.declared.front.Front.TheVariants as f
use Rattle.lk_lex.specs.declared.mark.Directive.{Directive}
use Rattle.lk_lex.specs.declared.mark.Directive.TheVariants as d
use Rattle.lk_lex.specs.declared.quoted.Quotation.TheVariants as q
use Rattle.lk_lex.specs.Ascii.{hash, star, slash}
use Rattle.lk_lex.specs.Bytes.{is_blank, word_len, line_len}
use Rattle.lk_lex.specs.Characters.{quoted_len, character, as_signed}
use Rattle.lk_lex.specs.Marks.{directive}
use Rattle.lk_lex.specs.Numbers.{digits_len, number_len, number_of}
use Rattle.lk_lex.specs.Punctuators.{spelling, punct_in_front, is_digraph_in_front}
use Rattle.lk_lex.specs.Words.{keyword_of}

-- C99 6.4.1, 6.4.2.1
abbrev pub word_kind : List ℕ → TokenKind
word_kind text = option_map_or k.Key (keyword_of text) k.Word

-- `L` directly before a quote begins a wide character or text (C99 6.4.4.4, 6.4.5)
abbrev pub is_wide : List ℕ → List ℕ → Bool
is_wide word rest =
    bytes_eq word (codes "L") && (starts_with nat_eq rest (codes "'") || starts_with nat_eq rest (codes "\""))

-- a word of at most 255 bytes that begins nothing wide
unfoldable pub word_front : List ℕ → Front
word_front bytes = let n = word_len bytes in
    if nat_lt 255 n || is_wide (take n bytes) (drop n bytes) then f.Broken
    else f.Token n (word_kind (take n bytes))

-- a preprocessing number that is an integer constant (C99 6.4.4.1, 6.4.8)
unfoldable pub number_front : List ℕ → Front
number_front bytes = let n = number_len 0 bytes in
    option_map_or (λ number. f.Token n (k.Number number.kind number.value))
    (number_of (take n bytes)) f.Broken

-- a character, by what stands behind its quote (C99 6.4.4.4)
unfoldable pub character_front : List ℕ → Front
character_front bytes =
    option_map_or (λ first. f.Token (first.len + 2) (k.Char (as_signed first.value)))
    (character bytes) f.Broken

-- a text, by what stands behind its quote (C99 6.4.5)
unfoldable pub text_front : List ℕ → Front
text_front bytes = option_map_or (λ n. f.Token (n + 1) k.Text) (quoted_len q.Text 0 bytes) f.Broken

abbrev pub closes : ℕ → ℕ → Bool
closes before c = before == star && (c == slash)

-- how many bytes there are up to the first `*/` and with it, by the byte before them
unfoldable pub comment_len : ℕ → List ℕ → Option ℕ
comment_len before [] = None
comment_len before (c ∷ cs) = if closes before c then Some 1 else option_map suc (comment_len c cs)

-- a comment, by what stands behind its `/*` (C99 6.4.9)
unfoldable pub comment_front : List ℕ → Front
comment_front bytes = option_map_or (λ n. f.Gap (n + 2)) (comment_len 0 bytes) f.Broken

-- the longest punctuator, which must be no digraph (C99 6.4.6)
unfoldable pub punct_front : List ℕ → Front
punct_front bytes =
    if is_digraph_in_front bytes then f.Broken
    else option_map_or (λ punct. f.Token (length (spelling punct)) (k.Punct punct))
    (punct_in_front bytes) f.Nothing

abbrev pub directive_front : ℕ → Option Directive → Front
directive_front n None = f.Broken
directive_front n (Some d.Pragma) = f.Gap n
directive_front n (Some (d.Mark mark)) = f.Mark n mark

-- a line that begins with `#`, by what stands behind it
unfoldable pub hash_front : List ℕ → Front
hash_front bytes = let n = line_len bytes in directive_front (n + 1) (directive (take n bytes))

-- a preprocessing number begins with a digit, or with a dot and a digit
abbrev pub begins_number : List ℕ → Bool
begins_number bytes =
    nat_lt 0 (digits_len b.Decimal bytes)
    || (starts_with nat_eq bytes (codes ".") && nat_lt 0 (digits_len b.Decimal (drop 1 bytes)))

-- a token or a comment, by the bytes from its first on
unfoldable pub piece : List ℕ → Front
piece bytes =
    if begins_number bytes then number_front bytes
    else if nat_lt 0 (word_len bytes) then word_front bytes
    else if starts_with nat_eq bytes (codes "'") then character_front (drop 1 bytes)
    else if starts_with nat_eq bytes (codes "\"") then text_front (drop 1 bytes)
    else if starts_with nat_eq bytes (codes "//") then f.Gap (line_len bytes)
    else if starts_with nat_eq bytes (codes "/*") then comment_front (drop 2 bytes)
    else punct_front bytes

-- what stands in front; `fresh` says that only blanks stand before it on its line
abbrev pub cut_by : Bool → ℕ → List ℕ → Front
cut_by fresh c bytes =
    if is_blank c then f.Gap 1 else if c == hash
    then (if fresh then hash_front (drop 1 bytes) else f.Nothing) else piece bytes

unfoldable pub cut : Bool → List ℕ → Front
cut fresh [] = f.Nothing
cut fresh (c ∷ cs) = cut_by fresh c (c ∷ cs)
