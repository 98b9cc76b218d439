-- Laws of the split.
use Rattle.std.specs.Prelude.{◌≡◌, ◌<◌, ◌≤◌, ◌↔◌, ⊤, ℕ, Bool, true, false, nat_eq, List, [], ◌∷◌, ◌++◌, ◌⊎◌, length, take, codes, Some, None}
use Rattle.std.specs.Char.{is_ascii_digit}
use Rattle.std.specs.List.{list_all, starts_with}
use Rattle.lk_base.specs.declared.code.Code.{Code}
use Rattle.lk_base.specs.declared.kind.Kind.{Kind}
use Rattle.lk_base.specs.declared.refusal.Refusal.{Refusal}
use Rattle.lk_base.specs.declared.spot.Spot.{Spot}
use Rattle.lk_lex.specs.declared.base.Base.TheVariants as b
use Rattle.lk_lex.specs.declared.keyword.Keyword.{Keyword}
use Rattle.lk_lex.specs.declared.place.Place.{Place}
use Rattle.lk_lex.specs.declared.token.Token.{Token}
use Rattle.lk_lex.specs.declared.front.Front.TheVariants as f
use Rattle.lk_lex.specs.declared.punct.Punct.{Punct}
use Rattle.lk_lex.specs.declared.token.TokenKind.{TokenKind}
use Rattle.lk_lex.specs.declared.token.TokenKind.TheVariants as k
use Rattle.lk_lex.specs.Answer.{AreTokens, IsRefused}
use Rattle.lk_lex.specs.Ascii.{dot}
use Rattle.lk_lex.specs.Bytes.{is_word_byte, word_len, blanks_len}
use Rattle.lk_lex.specs.Front.{cut, begins_number}
use Rattle.lk_lex.specs.Numbers.{digits_len, goes_on, number_of, with_kind}
use Rattle.lk_lex.specs.Punctuators.{spelling, is_digraph_in_front}
use Rattle.lk_lex.specs.Tokens.{Splits, Stops}
use Rattle.lk_lex.specs.Words as words

-- bytes split into one list of tokens at most
abbrev pub HasOneList : Type 0
HasOneList = (names : List (List ℕ)) (place : Place) (bytes : List ℕ) (a b : List Token) (x y : List (List ℕ))
    → Splits names place bytes a x → Splits names place bytes b y → (a ≡ b) × (x ≡ y)

-- where they split, the split doesn't stop
abbrev pub NeverBoth : Type 0
NeverBoth =
    (names : List (List ℕ)) (place : Place) (bytes : List ℕ) (tokens : List Token) (last : List (List ℕ))
    (code : Code) (spot : Spot) (others : List (List ℕ)) → Splits names place bytes tokens last →
    Stops names place bytes code spot others → ⊥

-- where the split stops, it stops at one place, with one code
abbrev pub HasOneStop : Type 0
HasOneStop =
    (names : List (List ℕ)) (place : Place) (bytes : List ℕ) (a b : Code) (s t : Spot) (x y : List (List ℕ)) →
    Stops names place bytes a s x → Stops names place bytes b t y → (a ≡ b) × (s ≡ t) × (x ≡ y)

-- a preprocessing number and its last byte (C99 6.4.8)
pub data IsNumberText : List ℕ → ℕ → Type 0 where
  digit : (d : ℕ) → is_ascii_digit d ≡ true → IsNumberText (d ∷ []) d
  dot_digit : (d : ℕ) → is_ascii_digit d ≡ true → IsNumberText (dot ∷ d ∷ []) d
  longer : {text : List ℕ} {before : ℕ} (c : ℕ) → IsNumberText text before → goes_on before c ≡ true →
      IsNumberText (text ++ c ∷ []) c

-- the first n bytes are a word, whose first is no digit, and no more of them are one
pub record IsLongestWord (bytes : List ℕ) (n : ℕ) : Type 0 where
  pub some : 0 < n
  pub within : n ≤ length bytes
  pub word : list_all is_word_byte (take n bytes) ≡ true
  pub no_digit : digits_len b.Decimal bytes ≡ 0
  pub longest : (m : ℕ) → m ≤ length bytes → list_all is_word_byte (take m bytes) ≡ true → m ≤ n

-- the first n bytes are a preprocessing number, and no more of them are one
pub record IsLongestNumber (bytes : List ℕ) (n : ℕ) : Type 0 where
  pub within : n ≤ length bytes
  pub number : (before : ℕ) × IsNumberText (take n bytes) before
  pub longest : (m before : ℕ) → m ≤ length bytes → IsNumberText (take m bytes) before → m ≤ n

-- the bytes begin with this punctuator, with no longer one, and with no digraph
pub record IsLongestPunct (bytes : List ℕ) (n : ℕ) (punct : Punct) : Type 0 where
  pub len : n ≡ length (spelling punct)
  pub front : starts_with nat_eq bytes (spelling punct) ≡ true
  pub longest : (other : Punct) → starts_with nat_eq bytes (spelling other) ≡ true →
      length (spelling other) ≤ n
  pub no_digraph : is_digraph_in_front bytes ≡ false

abbrev pub IsLongest : List ℕ → ℕ → TokenKind → Type 0
IsLongest bytes n k.Word = IsLongestWord bytes n
IsLongest bytes n (k.Key keyword) = IsLongestWord bytes n
IsLongest bytes n (k.Number kind value) = IsLongestNumber bytes n
IsLongest bytes n (k.Char value) = ⊤
IsLongest bytes n k.Text = ⊤
IsLongest bytes n (k.Punct punct) = IsLongestPunct bytes n punct
IsLongest bytes n k.End = ⊤

-- a word, a number or a punctuator in front is the longest that can stand there
abbrev pub AreLongest : Type 0
AreLongest = (fresh : Bool) (bytes : List ℕ) (n : ℕ) (kind : TokenKind) → cut fresh bytes ≡ f.Token n kind →
    IsLongest bytes n kind

-- bytes split into tokens, or the split stops
abbrev pub IsSplitOrStops : List (List ℕ) → Place → List ℕ → Type 0
IsSplitOrStops names place bytes =
    ((tokens : List Token) × (last : List (List ℕ)) × Splits names place bytes tokens last)
    ⊎ ((code : Code) × (spot : Spot) × (last : List (List ℕ)) × Stops names place bytes code spot last)

abbrev pub AlwaysOne : Type 0
AlwaysOne = (names : List (List ℕ)) (place : Place) (bytes : List ℕ) → IsSplitOrStops names place bytes

-- what a source is answered with, where memory is found
pub data Answer : Type 0 where
  accepted : List Token → Answer
  refused : Refusal → Answer

abbrev pub IsAnswer : List (List ℕ) → ℕ → List ℕ → List (List ℕ) → Answer → Type 0
IsAnswer names own bytes last (accepted tokens) = AreTokens names own bytes last tokens
IsAnswer names own bytes last (refused told) = IsRefused names own bytes last told

-- each source has one answer: so it has tokens exactly where it isn't refused
abbrev pub HasOneAnswer : Type 0
HasOneAnswer = (names : List (List ℕ)) (own : ℕ) (bytes : List ℕ) →
    (answer : Answer) × (last : List (List ℕ)) × IsAnswer names own bytes last answer
    × ((other : Answer) (behind : List (List ℕ)) → IsAnswer names own bytes behind other → (other ≡ answer) × (behind ≡ last))

-- what begins a blank, a comment, a line with `#`, or a token; `fresh` says that only blanks stand before it
-- on its line (C99 6.4, 6.4.9, 6.10)
pub data Begins (fresh : Bool) (bytes : List ℕ) : Type 0 where
  blank : 0 < blanks_len bytes → Begins fresh bytes
  comment : starts_with nat_eq bytes (codes "/*") ≡ true → Begins fresh bytes
  line_comment : starts_with nat_eq bytes (codes "//") ≡ true → Begins fresh bytes
  directive : fresh ≡ true → starts_with nat_eq bytes (codes "#") ≡ true → Begins fresh bytes
  word : 0 < word_len bytes → Begins fresh bytes
  number : begins_number bytes ≡ true → Begins fresh bytes
  character : starts_with nat_eq bytes (codes "'") ≡ true → Begins fresh bytes
  text : starts_with nat_eq bytes (codes "\"") ≡ true → Begins fresh bytes
  punctuator : (punct : Punct) → starts_with nat_eq bytes (spelling punct) ≡ true → Begins fresh bytes

-- nothing stands in front exactly where nothing begins
abbrev pub NothingBegins : Type 0
NothingBegins = (fresh : Bool) (bytes : List ℕ) → (cut fresh bytes ≡ f.Nothing) ↔ (Begins fresh bytes → ⊥)

-- the spelling of each keyword is read as that keyword
abbrev pub KeywordsAreRead : Type 0
KeywordsAreRead = (fresh : Bool) (keyword : Keyword) →
    cut fresh (words.spelling keyword) ≡ f.Token (length (words.spelling keyword)) (k.Key keyword)

-- the spelling of each punctuator is read as that punctuator
abbrev pub PunctuatorsAreRead : Type 0
PunctuatorsAreRead = (fresh : Bool) (punct : Punct) →
    cut fresh (spelling punct) ≡ f.Token (length (spelling punct)) (k.Punct punct)

-- a preprocessing number in front is refused exactly where it is no integer constant,
-- and else read as that constant
pub record IsReadAsConstant (fresh : Bool) (bytes : List ℕ) (n : ℕ) : Type 0 where
  pub refused : (cut fresh bytes ≡ f.Broken) ↔ (number_of (take n bytes) ≡ None)
  pub read : (kind : Kind) (value : ℕ) → (cut fresh bytes ≡ f.Token n (k.Number kind value))
      ↔ (number_of (take n bytes) ≡ Some (with_kind value kind))

abbrev pub NumbersAreConstants : Type 0
NumbersAreConstants = (fresh : Bool) (bytes : List ℕ) (n : ℕ) → IsLongestNumber bytes n →
    IsReadAsConstant fresh bytes n
