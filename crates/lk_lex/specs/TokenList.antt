-- What stands in the list of tokens that a source is answered with.
use Rattle.std.specs.Prelude.{◌≡◌, ℕ, ◌+◌, ◌<◌, ◌≤◌, ℤ, Bool, true, false, nat_eq, List, [], ◌∷◌, ◌++◌, length, drop, codes, Some, None}
use Rattle.std.specs.List.{All, AllPairs, list_all, starts_with}
use Rattle.lk_lex.specs.declared.base.Base.TheVariants as b
use Rattle.lk_lex.specs.declared.quoted.Item.{Item}
use Rattle.lk_lex.specs.declared.quoted.Quotation.TheVariants as q
use Rattle.lk_lex.specs.declared.token.Token.{Token}
use Rattle.lk_lex.specs.declared.token.TokenKind.{TokenKind}
use Rattle.lk_lex.specs.declared.token.TokenKind.TheVariants as k
use Rattle.lk_lex.specs.Answer.{AreTokens, is_word, text_of}
use Rattle.lk_lex.specs.Bytes.{is_word_byte}
use Rattle.lk_lex.specs.Characters.{as_signed, character, quoted_len}
use Rattle.lk_lex.specs.Numbers.{digits_len, number_of, with_kind}
use Rattle.lk_lex.specs.Punctuators as punctuators
use Rattle.lk_lex.specs.Words.{spelling, keyword_of}

-- letters, digits and `_`, of which the first is no digit (C99 6.4.2.1), at most 255
pub record IsWordText (text : List ℕ) : Type 0 where
  pub some : 0 < length text
  pub few : length text ≤ 255
  pub all : list_all is_word_byte text ≡ true
  pub no_digit : digits_len b.Decimal text ≡ 0

-- one character of this value between single quotes (C99 6.4.4.4)
pub record IsCharText (text : List ℕ) (value : ℤ) : Type 0 where
  pub opens : starts_with nat_eq text (codes "'") ≡ true
  pub one : Item
  pub inside : character (drop 1 text) ≡ Some one
  pub closes : length text ≡ one.len + 2
  pub means : as_signed one.value ≡ value

-- characters between double quotes (C99 6.4.5)
pub record IsStringText (text : List ℕ) : Type 0 where
  pub opens : starts_with nat_eq text (codes "\"") ≡ true
  pub closes : quoted_len q.Text 0 (drop 1 text) ≡ Some (length (drop 1 text))

-- what the bytes of a token of this kind are
abbrev pub IsSpelled : List ℕ → TokenKind → Type 0
IsSpelled text k.Word = IsWordText text × (keyword_of text ≡ None)
IsSpelled text (k.Key keyword) = text ≡ spelling keyword
IsSpelled text (k.Number kind value) = number_of text ≡ Some (with_kind value kind)
IsSpelled text (k.Char value) = IsCharText text value
IsSpelled text k.Text = IsStringText text
IsSpelled text (k.Punct punct) = text ≡ punctuators.spelling punct
IsSpelled text k.End = text ≡ []

abbrev pub is_end : TokenKind → Bool
is_end k.Word = false
is_end (k.Key keyword) = false
is_end (k.Number kind value) = false
is_end (k.Char value) = false
is_end k.Text = false
is_end (k.Punct punct) = false
is_end k.End = true

-- where a token stands in a source of so many bytes: each but End has a byte, and a word has at most 255
pub record IsInside (bytes : ℕ) (token : Token) : Type 0 where
  pub ordered : token.from ≤ token.to
  pub some : is_end token.kind ≡ false → token.from < token.to
  pub fits : token.to ≤ bytes
  pub short : is_word token.kind ≡ true → token.to ≤ token.from + 255

-- the last token, and it alone, is End, at the place after the last of so many bytes
pub record IsEnded (bytes : ℕ) (tokens : List Token) : Type 0 where
  pub before : List Token
  pub last : Token
  pub all : tokens ≡ before ++ last ∷ []
  pub only : All (λ token. is_end token.kind ≡ false) before
  pub end : last.kind ≡ k.End
  pub from : last.from ≡ bytes
  pub to : last.to ≡ bytes

-- what `tokens` answered for these bytes, with these names of files behind it: and so where its tokens stand,
-- in which order, and what their bytes are
pub record AreTokensOf (bytes : List ℕ) (files : List (List ℕ)) (tokens : List Token) : Type 0 where
  pub answered : (names : List (List ℕ)) × (own : ℕ) × AreTokens names own bytes files tokens
  pub inside : All (IsInside (length bytes)) tokens
  pub spelled : All (λ token. IsSpelled (text_of bytes token) token.kind) tokens
  pub filed : All (λ token. token.spot.file < length files) tokens
  pub apart : AllPairs (λ first later. first.to ≤ later.from) tokens
  pub ended : IsEnded (length bytes) tokens
  pub few : length tokens ≤ length bytes + 1
