-- What the calls inside this crate answer about files and tokens, which private contracts alone cite.
use Rattle.std.specs.Bool.{⊤}
use Rattle.std.specs.Prelude.{ℕ, ◌≡◌, ◌<◌, ◌≤◌, ◌⊎◌, List, [], ◌∷◌, ◌++◌, Bool, ◌||◌, ◌==◌, if◌then◌else◌, map, length, Some, None}
use Rattle.std.specs.List.{All, AllZip}
use Rattle.std.specs.Option.{ForSome}
use Rattle.lk_base.specs.declared.code.Code.TheVariants.{BadExterns, TooLong}
use Rattle.lk_base.specs.declared.fault.Fault.{Fault}
use Rattle.lk_base.specs.declared.fault.Fault.TheVariants as fault
use Rattle.lk_io.specs.Shelf.{IsFileName, IsLonger}
use Rattle.lk_lex.specs.Answer.{first_refused}
use Rattle.lk_lex.specs.TokenList.{IsInside}
use Rattle.lk_lex.specs.Tokens.{Splits, start_of}
use Rattle.lk_lex.specs.declared.token.Token.{Token}
use Rattle.lk_words.specs.Words.{Command, beside}
use Rattle.lk_sources.specs.Accepting.{IsRefusedAt}
use Rattle.lk_sources.specs.Externs.{Listed, Names, BadLine, is_identifier}
use Rattle.lk_sources.specs.Numbers.{refusal_at}
use Rattle.lk_sources.specs.Reading.{longest_beside, longest_externs, longest_sources, names_of, AreOwnRead, AreRead, Passes, IsAmong, Reaches, IsRead, IsNamed, IsTooLong, ComesTo}
use Rattle.lk_sources.specs.Shelves.{Shelved, HasRisen, IsAsBefore}
use Rattle.lk_sources.specs.Splitting.{AreFiled, AreSplit, StopsIn, word_in, first_word}
use Rattle.lk_sources.specs.Readable.{AreShort}
use Rattle.lk_sources.specs.declared.externs.Listed as code
use Rattle.lk_sources.specs.declared.externs.Listed.TheVariants as listing
use Rattle.lk_sources.specs.declared.fault.SourcesFault.{SourcesFault}
use Rattle.lk_sources.specs.declared.fault.SourcesFault.TheVariants as told
use Rattle.lk_sources.specs.declared.reading.Both.{Both}
use Rattle.lk_sources.specs.declared.reading.ReadingFault.{ReadingFault}
use Rattle.lk_sources.specs.declared.reading.ReadingFault.TheVariants as unread
use Rattle.lk_sources.specs.declared.reading.Source.{Source}
use Rattle.lk_sources.specs.declared.splitting.Split as split
use Rattle.lk_sources.specs.declared.splitting.Split.TheVariants as splits

-- ---- reading

abbrev pub AreFileNames : List (List ℕ) → Type 0
AreFileNames names = All IsFileName names

-- a file of this name, of at most so many bytes
abbrev pub IsFile : List ℕ → ℕ → Shelved → Source → Type 0
IsFile name most shelf s =
    IsAsBefore shelf.faults × (s.name ≡ name) × (length s.bytes ≤ most)
    × ForSome shelf.files (λ held. held name ≡ Some s.bytes)

abbrev pub IsNoFile : List ℕ → ℕ → Shelved → ReadingFault → Type 0
IsNoFile name most shelf (unread.TooLong told) =
    IsAsBefore shelf.faults × (told ≡ name) × ForSome shelf.files (λ held. IsLonger (held name) most)
IsNoFile name most shelf (unread.Unread told) =
    HasRisen shelf.faults × (told ≡ name) × ForSome shelf.bad (λ bad. bad ≡ name)
IsNoFile name most shelf unread.NoMemory = ⊤

-- the files of these names, of at most so many bytes together
pub record AreFiles (names : List (List ℕ)) (most : ℕ) (shelf : Shelved)
    (sources : List Source) : Type 0 where
  pub calm : IsAsBefore shelf.faults
  pub named : map (λ s. s.name) sources ≡ names
  pub short : AreShort most sources
  pub read : ForSome shelf.files (λ held. (left : ℕ) × AreRead held most names sources left)

abbrev pub AreNoFiles : List (List ℕ) → ℕ → Shelved → ReadingFault → Type 0
AreNoFiles names most shelf (unread.TooLong name) =
    IsAsBefore shelf.faults × ForSome shelf.files (λ held. Passes held most names name)
AreNoFiles names most shelf (unread.Unread name) =
    HasRisen shelf.faults × IsAmong names name × ForSome shelf.bad (λ bad. bad ≡ name)
    × ForSome shelf.files (λ held. Reaches held most names name)
AreNoFiles names most shelf unread.NoMemory = ⊤

-- the files of a command but its sources
pub record AreOwn (command : Command) (shelf : Shelved) (externs others : List Source) : Type 0 where
  pub calm : IsAsBefore shelf.faults
  pub externs_names : map (λ s. s.name) externs ≡ names_of command.externs
  pub others_names : map (λ s. s.name) others ≡ names_of (beside command.task)
  pub short_externs : AreShort longest_externs externs
  pub short_others : AreShort (longest_beside command.task) others
  pub read : ForSome shelf.files (λ held. AreOwnRead command held externs others)

-- the files of a command
pub record AreBoth (command : Command) (shelf : Shelved) (files : Both) : Type 0 where
  pub calm : IsAsBefore shelf.faults
  pub externs_names : map (λ s. s.name) files.externs ≡ names_of command.externs
  pub others_names : map (λ s. s.name) files.beside ≡ names_of (beside command.task)
  pub names : map (λ s. s.name) files.sources ≡ command.files
  pub short_externs : AreShort longest_externs files.externs
  pub short_others : AreShort (longest_beside command.task) files.beside
  pub short : AreShort longest_sources files.sources
  pub read : ForSome shelf.files (λ held. IsRead command held files.externs files.beside files.sources)

abbrev pub AreNotBoth : Command → Shelved → ReadingFault → Type 0
AreNotBoth command shelf (unread.TooLong name) =
    IsAsBefore shelf.faults × ForSome shelf.files (λ held. IsTooLong command held name)
AreNotBoth command shelf (unread.Unread name) =
    HasRisen shelf.faults × IsNamed command name × ForSome shelf.bad (λ bad. bad ≡ name)
    × ForSome shelf.files (λ held. ComesTo command held name)
AreNotBoth command shelf unread.NoMemory = ⊤

-- ---- the file of --externs

-- a line that is empty or an identifier
abbrev pub is_line : List ℕ → Bool
is_line line = is_identifier line || (length line == 0)

-- the names with that of the line, where it is one
abbrev pub with_line : List (List ℕ) → List ℕ → List (List ℕ)
with_line names line = if is_identifier line then names ++ line ∷ [] else names

abbrev pub IsListed : Listed → code.Listed → Type 0
IsListed (Names names) (listing.Names found) = found.items ≡ names
IsListed (Names names) (listing.BadLine line) = ⊥
IsListed (BadLine number) (listing.Names found) = ⊥
IsListed (BadLine number) (listing.BadLine line) = line ≡ number

-- ---- tokens

abbrev pub IsSplit : List (List ℕ) → ℕ → Source → List (List ℕ) → split.Split → Type 0
IsSplit names own s last (splits.Tokens tokens) =
    Splits names (start_of own) s.bytes tokens last × (first_refused s.bytes tokens ≡ None)
    × All (IsInside (length s.bytes)) tokens ×
    AreFiled (length last) tokens
IsSplit names own s last (splits.Word refusal) =
    ((tokens : List Token) × Splits names (start_of own) s.bytes tokens last
    × (word_in s tokens ≡ Some refusal)) × (refusal.spot.file < length last)

-- the tokens of each stand in it
abbrev pub AreAllInside : List Source → List (List Token) → Type 0
AreAllInside sources lists = AllZip (λ s tokens. All (IsInside (length s.bytes)) tokens) sources lists

abbrev pub IsSplitFault : List (List ℕ) → List Source → List (List ℕ) → Fault → Type 0
IsSplitFault names sources last fault.NoMemory = ⊤
IsSplitFault names sources last (fault.Refused refusal) =
    StopsIn names sources refusal last
    ⊎ ((lists : List (List Token)) × AreSplit names sources lists last × (first_word sources lists ≡ Some refusal))

-- ---- refusals

-- a refusal stands in some of the first files
abbrev pub IsFaultIn : ℕ → Fault → Type 0
IsFaultIn files fault.NoMemory = ⊤
IsFaultIn files (fault.Refused refusal) = refusal.spot.file < files

-- what the fault of reading comes to
abbrev pub IsUnread : List (List ℕ) → ReadingFault → SourcesFault → Type 0
IsUnread names (unread.TooLong name) fault = IsRefusedAt name (refusal_at names name TooLong 1) fault
IsUnread names (unread.Unread name) fault = fault ≡ told.Unread name
IsUnread names unread.NoMemory fault = fault ≡ told.NoMemory

-- the refusal of a line of the first of these files
abbrev pub IsBadExterns : List (List ℕ) → List Source → ℕ → SourcesFault → Type 0
IsBadExterns names [] line fault = ⊥
IsBadExterns names (first ∷ others) line fault =
    IsRefusedAt first.name (refusal_at names first.name BadExterns line) fault
