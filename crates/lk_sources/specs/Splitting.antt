-- The tokens of several sources, in their order (C99 5.1.1.2, 6.4).
use Rattle.std.specs.Prelude.{ℕ, ◌<◌, List, [], ◌∷◌, All, Option, None, option_map}
use Rattle.std.specs.Option.{option_or}
use Rattle.lk_base.specs.declared.code.Code.{Code}
use Rattle.lk_base.specs.declared.code.Code.TheVariants.{UnsupportedWord}
use Rattle.lk_base.specs.declared.refusal.Refusal.{Refusal}
use Rattle.lk_base.specs.declared.spot.Spot.{Spot}
use Rattle.lk_lex.specs.Answer.{first_refused, refusal, text_of}
use Rattle.lk_lex.specs.Tokens.{Splits, Stops, start_of}
use Rattle.lk_lex.specs.declared.token.Token.{Token}
use Rattle.lk_sources.specs.Numbers.{number_of}
use Rattle.lk_sources.specs.declared.reading.Source.{Source}

-- These sources split into these lists of tokens, one each. The names of files, among which each source's own
-- stands from the first on, grow by those of the line marks.
pub data AreSplit : List (List ℕ) → List Source → List (List Token) → List (List ℕ) → Type 0 where
  nothing : {names : List (List ℕ)} → AreSplit names [] [] names
  next : {names middle last : List (List ℕ)} {s : Source} {rest : List Source} {tokens : List Token}
      {lists : List (List Token)} → Splits names (start_of (number_of names s.name)) s.bytes tokens middle →
      AreSplit middle rest lists last → AreSplit names (s ∷ rest) (tokens ∷ lists) last

-- tokens stand in some of the first files, of which there is one at least
pub record AreFiled (files : ℕ) (tokens : List Token) : Type 0 where
  pub some : 0 < files
  pub each : All (λ token. token.spot.file < files) tokens

-- the first of them of which the split stops, with that refusal
pub data StopsIn : List (List ℕ) → List Source → Refusal → List (List ℕ) → Type 0 where
  here : {names last : List (List ℕ)} {s : Source} {rest : List Source} (code : Code) (spot : Spot) →
      Stops names (start_of (number_of names s.name)) s.bytes code spot last →
      StopsIn names (s ∷ rest) (refusal code spot []) last
  behind : {names middle last : List (List ℕ)} {s : Source} {rest : List Source} {tokens : List Token}
      {told : Refusal} → Splits names (start_of (number_of names s.name)) s.bytes tokens middle →
      StopsIn middle rest told last → StopsIn names (s ∷ rest) told last

-- the refusal of the first word among a source's tokens that is not supported
abbrev pub word_in : Source → List Token → Option Refusal
word_in s tokens =
    option_map (λ token. refusal UnsupportedWord token.spot (text_of s.bytes token))
    (first_refused s.bytes tokens)

-- the same of several sources
abbrev pub first_word : List Source → List (List Token) → Option Refusal
first_word [] lists = None
first_word (s ∷ rest) [] = None
first_word (s ∷ rest) (tokens ∷ lists) = option_or (word_in s tokens) (first_word rest lists)
