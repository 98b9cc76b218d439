-- Punctuators (C99 6.4.6).
use Rattle.std.specs.Prelude.{ℕ, Bool, nat_eq, List, [], ◌∷◌, codes, Option}
use Rattle.std.specs.List.{list_any, find, starts_with}
use Rattle.lk_lex.specs.declared.punct.Punct.{Punct}
use Rattle.lk_lex.specs.declared.punct.Punct.TheVariants as p

-- those of C99 6.4.6 but `#`, `##` and the digraphs
abbrev pub spelling : Punct → List ℕ
spelling p.OpenBracket = codes "["
spelling p.CloseBracket = codes "]"
spelling p.OpenParen = codes "("
spelling p.CloseParen = codes ")"
spelling p.OpenBrace = codes "{"
spelling p.CloseBrace = codes "}"
spelling p.Dot = codes "."
spelling p.Arrow = codes "->"
spelling p.PlusPlus = codes "++"
spelling p.MinusMinus = codes "--"
spelling p.Ampersand = codes "&"
spelling p.Star = codes "*"
spelling p.Plus = codes "+"
spelling p.Minus = codes "-"
spelling p.Tilde = codes "~"
spelling p.Bang = codes "!"
spelling p.Slash = codes "/"
spelling p.Percent = codes "%"
spelling p.ShiftLeft = codes "<<"
spelling p.ShiftRight = codes ">>"
spelling p.Less = codes "<"
spelling p.Greater = codes ">"
spelling p.LessEqual = codes "<="
spelling p.GreaterEqual = codes ">="
spelling p.EqualEqual = codes "=="
spelling p.BangEqual = codes "!="
spelling p.Caret = codes "^"
spelling p.Bar = codes "|"
spelling p.AndAnd = codes "&&"
spelling p.BarBar = codes "||"
spelling p.Question = codes "?"
spelling p.Colon = codes ":"
spelling p.Semicolon = codes ";"
spelling p.Ellipsis = codes "..."
spelling p.Equal = codes "="
spelling p.StarEqual = codes "*="
spelling p.SlashEqual = codes "/="
spelling p.PercentEqual = codes "%="
spelling p.PlusEqual = codes "+="
spelling p.MinusEqual = codes "-="
spelling p.ShiftLeftEqual = codes "<<="
spelling p.ShiftRightEqual = codes ">>="
spelling p.AmpersandEqual = codes "&="
spelling p.CaretEqual = codes "^="
spelling p.BarEqual = codes "|="
spelling p.Comma = codes ","

-- all of them, longer ones first
abbrev pub punctuators : List Punct
punctuators =
    p.Ellipsis ∷ p.ShiftLeftEqual ∷ p.ShiftRightEqual ∷
    p.Arrow ∷ p.PlusPlus ∷ p.MinusMinus ∷ p.ShiftLeft ∷ p.ShiftRight ∷ p.LessEqual ∷
    p.GreaterEqual ∷ p.EqualEqual ∷
    p.BangEqual ∷ p.AndAnd ∷ p.BarBar ∷ p.StarEqual ∷ p.SlashEqual ∷ p.PercentEqual ∷
    p.PlusEqual ∷ p.MinusEqual ∷
    p.AmpersandEqual ∷ p.CaretEqual ∷ p.BarEqual ∷
    p.OpenBracket ∷ p.CloseBracket ∷ p.OpenParen ∷ p.CloseParen ∷ p.OpenBrace ∷ p.CloseBrace ∷
    p.Dot ∷ p.Ampersand ∷
    p.Star ∷ p.Plus ∷ p.Minus ∷ p.Tilde ∷ p.Bang ∷ p.Slash ∷ p.Percent ∷ p.Less ∷
    p.Greater ∷ p.Caret ∷ p.Bar ∷
    p.Question ∷ p.Colon ∷ p.Semicolon ∷ p.Equal ∷ p.Comma ∷ []

-- the longest that the bytes begin with
unfoldable pub punct_in_front : List ℕ → Option Punct
punct_in_front bytes = find (λ punct. starts_with nat_eq bytes (spelling punct)) punctuators

-- other spellings of `[ ] { }` and `#` (C99 6.4.6, 3)
abbrev pub digraphs : List (List ℕ)
digraphs = codes "<:" ∷ codes ":>" ∷ codes "<%" ∷ codes "%>" ∷ codes "%:" ∷ []

abbrev pub is_digraph_in_front : List ℕ → Bool
is_digraph_in_front bytes = list_any (λ digraph. starts_with nat_eq bytes digraph) digraphs
