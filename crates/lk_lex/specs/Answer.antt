-- What a source is answered with: its tokens, or why it is refused.
use Rattle.std.specs.Prelude.{◌≡◌, ℕ, ◌<◌, Bool, true, false, ◌&&◌, List, [], ◌++◌, length, slice_range, Option, Some, None}
use Rattle.std.specs.List.{find}
use Rattle.lk_base.specs.declared.code.Code.{Code}
use Rattle.lk_base.specs.declared.code.Code.TheVariants as c
use Rattle.lk_base.specs.declared.spot.Spot.{Spot}
use Rattle.lk_base.specs.declared.refusal.Refusal.{Refusal}
use Rattle.lk_base.specs.declared.fault.Fault.{Fault}
use Rattle.lk_base.specs.declared.fault.Fault.TheVariants as e
use Rattle.lk_lex.specs.declared.token.Token.{Token}
use Rattle.lk_lex.specs.declared.token.TokenKind.{TokenKind}
use Rattle.lk_lex.specs.declared.token.TokenKind.TheVariants as k
use Rattle.lk_lex.specs.Tokens.{Splits, Stops, start_of}
use Rattle.lk_lex.specs.Words.{is_unsupported}

-- a word or a keyword
abbrev pub is_word : TokenKind → Bool
is_word k.Word = true
is_word (k.Key keyword) = true
is_word (k.Number kind value) = false
is_word (k.Char value) = false
is_word k.Text = false
is_word (k.Punct punct) = false
is_word k.End = false

-- the bytes of a token
abbrev pub text_of : List ℕ → Token → List ℕ
text_of bytes token = slice_range bytes token.from token.to

abbrev pub is_refused : List ℕ → Token → Bool
is_refused bytes token = is_word token.kind && is_unsupported (text_of bytes token)

-- the first token that is a word of the code UnsupportedWord
abbrev pub first_refused : List ℕ → List Token → Option Token
first_refused bytes tokens = find (is_refused bytes) tokens

-- the source is these tokens, and no word of the code UnsupportedWord is among them; the names of files
-- grow from the first to the last
pub record AreTokens (names : List (List ℕ)) (own : ℕ) (bytes : List ℕ) (last : List (List ℕ))
    (tokens : List Token) : Type 0 where
  pub split : Splits names (start_of own) bytes tokens last
  pub supported : first_refused bytes tokens ≡ None

-- the refusal with this code and this name at this place
abbrev pub refusal : Code → Spot → List ℕ → Refusal
refusal code spot name = record { code = code; spot = spot; name = name }

-- why a source is refused: the split stops, or it gives tokens with a word of the code UnsupportedWord
pub data IsRefused (names : List (List ℕ)) (own : ℕ) (bytes : List ℕ) (last : List (List ℕ)) : Refusal →
    Type 0 where
  stopped : (code : Code) (spot : Spot) → Stops names (start_of own) bytes code spot last →
      IsRefused names own bytes last (refusal code spot [])
  unsupported : (tokens : List Token) (token : Token) → Splits names (start_of own) bytes tokens last →
      first_refused bytes tokens ≡ Some token →
      IsRefused names own bytes last (refusal c.UnsupportedWord token.spot (text_of bytes token))

-- a refusal with its cause, whose file is among the names; or want of memory
abbrev pub IsFault : List (List ℕ) → ℕ → List ℕ → List (List ℕ) → Fault → Type 0
IsFault names own bytes last e.NoMemory = Unit {0}
IsFault names own bytes last (e.Refused told) =
    IsRefused names own bytes last told × (told.spot.file < length last)

-- what was there still stands in front
abbrev pub Extends : {A : Type 0} → List A → List A → Type 0
Extends {A} before behind = (more : List A) × (behind ≡ before ++ more)
