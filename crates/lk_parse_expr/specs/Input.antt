-- What the grammar reads from: the tokens that are left, and the names in scope (C99 6.2.1).
use Rattle.std.specs.Prelude.{ℕ, Bool, false, if◌then◌else◌, nat_eq, List, [], ◌∷◌, ◌++◌, length, take, drop, fold, refl}
use Rattle.std.specs.Coded.{Coded, code_by, coded×, coded_ℕ, coded_bool, coded_list}
use Rattle.std.specs.Cmp.Lexicographic.{pointwise}
use Rattle.lk_base.specs.declared.spot.Spot.{Spot}
use Rattle.lk_lex.specs.declared.token.Token.{Token}
use Rattle.lk_lex.specs.contracts.token.Token as token
use Rattle.lk_lex.specs.declared.token.TokenKind.{TokenKind}
use Rattle.lk_lex.specs.declared.token.TokenKind.TheVariants as k
use Rattle.lk_lex.specs.Answer.{text_of}
use Rattle.lk_lex.specs.TokenList.{IsInside}
use Rattle.std.specs.List.{All}

-- the names declared so far, the innermost last, each with whether it is declared as a typedef
abbrev pub Names : Type 0
Names = List (List ℕ × Bool)

pub record Input : Type 0 where
  pub source : List ℕ
  pub tokens : List Token
  pub names : Names

abbrev pub input_code : Coded Input
input_code =
    code_by (List ℕ × (List Token × Names))
    (coded× (coded_list coded_ℕ) (coded× (coded_list token.the_row.coded) (coded_list (coded× (coded_list coded_ℕ) coded_bool))))
    (λ i. (i.source, (i.tokens, i.names)))
    (λ p. record { source = p.0; tokens = p.1.0; names = p.1.1 }) (λ _. refl)

-- the tokens stand in the source, and its words are no longer than names may be
abbrev pub AreInside : List ℕ → List Token → Type 0
AreInside source tokens = All (IsInside (length source)) tokens

-- ---- the token in front

abbrev pub kind_of : List Token → TokenKind
kind_of [] = k.End
kind_of (first ∷ tokens) = first.kind

-- what stands in front; at the end it is the end
unfoldable pub peek : Input → TokenKind
peek i = kind_of i.tokens

abbrev pub spot_of : List Token → Spot
spot_of [] = record { file = 0; line = 0; col = 0 }
spot_of (first ∷ tokens) = first.spot

-- the place of the token in front
unfoldable pub here : Input → Spot
here i = spot_of i.tokens

abbrev pub text_in : List ℕ → List Token → List ℕ
text_in source [] = []
text_in source (first ∷ tokens) = text_of source first

-- the bytes of the token in front
unfoldable pub text : Input → List ℕ
text i = text_in i.source i.tokens

-- the input behind the token in front
unfoldable pub next : Input → Input
next i = record i { tokens = drop 1 i.tokens }

-- ---- the names in scope

abbrev pub is_declared_by : List ℕ → Bool → List ℕ × Bool → Bool
is_declared_by word before declared = if pointwise nat_eq declared.0 word then declared.1 else before

-- whether the innermost declaration of the word is a typedef
unfoldable pub is_typedef : Names → List ℕ → Bool
is_typedef names word = fold (is_declared_by word) false names

unfoldable pub declare : List ℕ → Bool → Input → Input
declare name typedef i = record i { names = i.names ++ (name, typedef) ∷ [] }

-- the input with as many names as the other has: those that were declared since then are gone
unfoldable pub leave : Input → Input → Input
leave outer i = record i { names = take (length outer.names) i.names }

-- the names that were declared since then
unfoldable pub declared_since : Input → Input → Names
declared_since outer i = drop (length outer.names) i.names

-- the input with these names declared
unfoldable pub with_names : Names → Input → Input
with_names names i = record i { names = i.names ++ names }
