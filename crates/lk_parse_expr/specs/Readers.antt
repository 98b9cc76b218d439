-- Readers: functions from the input to what is read and the input behind it, or to a fault, and the
-- steps that they are made of. Contracts of functions that read cite them; what a tree of the
-- tokens is stands in Grammar.
use Rattle.std.specs.Prelude.{◌≡◌, ◌≢◌, ℕ, zero, suc, min, Bool, false, not, ◌&&◌, if◌then◌else◌, nat_le, List, [], ◌∷◌, ◌++◌, length, Result, Ok, Err}
use denote.Enum.Bare.{sameb}
use Rattle.lk_base.specs.declared.code.Code.{Code}
use Rattle.lk_base.specs.declared.code.Code.TheVariants as code
use Rattle.lk_base.specs.declared.fault.Fault.{Fault}
use Rattle.lk_base.specs.declared.fault.Fault.TheVariants as fault
use Rattle.lk_lex.specs.declared.token.TokenKind.{TokenKind}
use Rattle.lk_lex.specs.declared.token.TokenKind.TheVariants as k
use Rattle.lk_lex.specs.declared.punct.Punct.{Punct}
use Rattle.lk_lex.specs.declared.punct.Punct.TheVariants as p
use Rattle.lk_lex.specs.contracts.punct.Punct as punct
use Rattle.lk_lex.specs.declared.keyword.Keyword.{Keyword}
use Rattle.lk_lex.specs.contracts.keyword.Keyword as keyword
use Rattle.lk_parse_expr.specs.declared.found.Found.{Found}
use Rattle.lk_parse_expr.specs.Input.{Input, peek, here, text, next}
use Rattle.lk_parse_expr.specs.Words.{is_word}

abbrev pub Outcome : Type 0 → Type 0
Outcome A = Result (A × Input) Fault

abbrev pub Parser : Type 0 → Type 0
Parser A = Input → Outcome A

abbrev pub and_then : {A B : Type 0} → Outcome A → (A → Parser B) → Outcome B
and_then (Ok p) f = f p.0 p.1
and_then (Err e) f = Err e

infixr 10 ◌>>=◌
abbrev pub ◌>>=◌ : {A B : Type 0} → Parser A → (A → Parser B) → Parser B
p >>= f = λ i. and_then (p i) f

infixr 10 ◌>>◌
abbrev pub ◌>>◌ : {A B : Type 0} → Parser A → Parser B → Parser B
p >> q = p >>= (λ _. q)

abbrev pub pure : {A : Type 0} → A → Parser A
pure a = λ i. Ok (a, i)

abbrev pub fault_at : Code → Input → Fault
fault_at code i = fault.Refused (record { code = code; spot = here i; name = [] })

-- the token in front is one with which no tree can go on
abbrev pub syntax_at : Input → Fault
syntax_at i = fault_at code.Syntax i

-- the token in front is one with which only trees that are too deep can go on
abbrev pub too_deep_at : Input → Fault
too_deep_at i = fault_at code.TooDeep i

abbrev pub refuse : {A : Type 0} → Parser A
refuse = λ i. Err (syntax_at i)

abbrev pub exhaust : {A : Type 0} → Parser A
exhaust = λ i. Err (too_deep_at i)

-- where no level is left: only what begins nothing is refused for itself
abbrev pub exhausted : {A : Type 0} → Bool → Parser A
exhausted begins = λ i. if begins then Err (too_deep_at i) else Err (syntax_at i)

-- ---- tokens

unfoldable pub same_punct : Punct → Punct → Bool
same_punct = sameb punct.the_type

unfoldable pub same_keyword : Keyword → Keyword → Bool
same_keyword = sameb keyword.the_type

abbrev pub is_punct : Punct → TokenKind → Bool
is_punct p k.Word = false
is_punct p (k.Key w) = false
is_punct p (k.Number kind value) = false
is_punct p (k.Char value) = false
is_punct p k.Text = false
is_punct p (k.Punct q) = same_punct q p
is_punct p k.End = false

abbrev pub is_key : Keyword → TokenKind → Bool
is_key w k.Word = false
is_key w (k.Key v) = same_keyword v w
is_key w (k.Number kind value) = false
is_key w (k.Char value) = false
is_key w k.Text = false
is_key w (k.Punct q) = false
is_key w k.End = false

-- whether this punctuator is in front
unfoldable pub sees : Punct → Input → Bool
sees p i = is_punct p (peek i)

unfoldable pub sees_key : Keyword → Input → Bool
sees_key w i = is_key w (peek i)

-- how many tokens are left
unfoldable pub left : Input → ℕ
left i = length i.tokens

abbrev pub take : Parser (Unit {0})
take = λ i. Ok (tt, next i)

unfoldable pub expect : Punct → Parser (Unit {0})
expect p = λ i. if sees p i then Ok (tt, next i) else Err (syntax_at i)

unfoldable pub expect_key : Keyword → Parser (Unit {0})
expect_key w = λ i. if sees_key w i then Ok (tt, next i) else Err (syntax_at i)

-- a name
unfoldable pub word : Parser (List ℕ)
word = λ i. if is_word (peek i) then Ok (text i, next i) else Err (syntax_at i)

-- ---- levels

abbrev pub found : {A : Type 0} → A → ℕ → Found A
found tree room = record { tree = tree; room = room }

-- whether so many levels are left
unfoldable pub need : ℕ → ℕ → Parser (Unit {0})
need least room = λ i. if nat_le least room then Ok (tt, i) else Err (too_deep_at i)

abbrev pub joined : {A : Type 0} → Found (List A) → Found A → Found (List A)
joined before next = found (before.tree ++ next.tree ∷ []) (min before.room next.room)

-- ---- lists. The number bounds the turns, each of which takes a token.

-- whether a comma is in front that goes on, which one before such a token does not
unfoldable pub goes_on : (TokenKind → Bool) → Input → Bool
goes_on ends i = sees p.Comma i && not (ends (peek (next i)))

-- items with commas between them, one at least
unfoldable pub separated_from : {A : Type 0} → (TokenKind → Bool) → Parser (Found A) → ℕ → Found (List A) →
    Parser (Found (List A))
separated_from ends item zero before = refuse
separated_from ends item (suc n) before =
    item >>= (λ one. λ i. if goes_on ends i then separated_from ends item n (joined before one) (next i) else Ok (joined before one, i))

abbrev pub separated : {A : Type 0} → (TokenKind → Bool) → Parser (Found A) → ℕ → Parser (Found (List A))
separated ends item room = λ i. separated_from ends item (left i) (found [] room) i

-- items one after another, until one is in front that stops them
unfoldable pub repeat_from : {A : Type 0} → (Input → Bool) → Parser (Found A) → ℕ → Found (List A) →
    Parser (Found (List A))
repeat_from stops item zero before = λ i. Ok (before, i)
repeat_from stops item (suc n) before =
    λ i. if stops i then Ok (before, i)
    else and_then (item i) (λ next. repeat_from stops item n (joined before next))

abbrev pub repeat : {A : Type 0} → (Input → Bool) → Parser (Found A) → Found (List A) →
    Parser (Found (List A))
repeat stops item before = λ i. repeat_from stops item (left i) before i

-- ---- what a function that reads ensures: the reader's outcome, unless memory fails

abbrev pub Gives : {A : Type 0} → Outcome A → Result A Fault → Input → Type 0
Gives outcome (Ok a) new = outcome ≡ Ok (a, new)
Gives outcome (Err e) new = e ≢ fault.NoMemory → outcome ≡ Err e
