-- What the reading of a command's files answers.
use Rattle.std.specs.Bool.{⊤}
use Rattle.std.specs.Prelude.{ℕ, ◌≡◌, ◌<◌, ◌≤◌, ◌^◌, true, List, length, map}
use Rattle.std.specs.List.{All}
use Rattle.std.specs.Option.{ForSome}
use Rattle.lk_base.specs.Files.{has_name}
use Rattle.lk_base.specs.declared.code.Code.TheVariants.{TooLong}
use Rattle.lk_words.specs.Words.{Command, beside}
use Rattle.lk_sources.specs.Numbers.{numbered, refusal_at}
use Rattle.lk_sources.specs.Reading.{longest_beside, longest_externs, longest_sources, names_of, IsRead, IsNamed, IsTooLong, ComesTo}
use Rattle.lk_sources.specs.Shelves.{Shelved, HasRisen, IsAsBefore}
use Rattle.lk_sources.specs.declared.fault.SourcesFault.{SourcesFault}
use Rattle.lk_sources.specs.declared.fault.SourcesFault.TheVariants as told
use Rattle.lk_sources.specs.declared.reading.Source.{Source}
use Rattle.lk_sources.specs.declared.reading.Texts.{Texts}

-- each has at most so many bytes
abbrev pub AreShort : ℕ → List Source → Type 0
AreShort most sources = All (λ s. length s.bytes ≤ most) sources

-- the name of each is among the names
abbrev pub AreNamed : List (List ℕ) → List Source → Type 0
AreNamed names sources = All (λ s. has_name names s.name ≡ true) sources

-- so many: one at least, and their numbers have 32 bits
pub record AreFew (count : ℕ) : Type 0 where
  pub some : 0 < count
  pub few : count < 2 ^ 32

-- what is read is no longer than it may be, and the sources' names have numbers
pub record IsReadable (texts : Texts) : Type 0 where
  pub short_externs : AreShort longest_externs texts.externs
  pub short : AreShort longest_sources texts.sources
  pub named : AreNamed texts.files texts.sources

-- the files of a command
pub record Reads (command : Command) (shelf : Shelved) (texts : Texts) : Type 0 where
  pub calm : IsAsBefore shelf.faults
  pub files : texts.files ≡ numbered command
  pub externs_names : map (λ s. s.name) texts.externs ≡ names_of command.externs
  pub others_names : map (λ s. s.name) texts.beside ≡ names_of (beside command.task)
  pub short_others : AreShort (longest_beside command.task) texts.beside
  pub names : map (λ s. s.name) texts.sources ≡ command.files
  pub few : AreFew (length texts.sources)
  pub readable : IsReadable texts
  pub read : ForSome shelf.files (λ held. IsRead command held texts.externs texts.beside texts.sources)

-- a file is too long; or one of the command's can't be read, to which the reading comes; or want of memory
abbrev pub FailsToRead : Command → Shelved → SourcesFault → Type 0
FailsToRead command shelf (told.Refused file refusal) =
    IsAsBefore shelf.faults × (refusal ≡ refusal_at (numbered command) file TooLong 1)
    × ForSome shelf.files (λ held. IsTooLong command held file)
FailsToRead command shelf (told.Unread name) =
    HasRisen shelf.faults × IsNamed command name × ForSome shelf.bad (λ bad. bad ≡ name)
    × ForSome shelf.files (λ held. ComesTo command held name)
FailsToRead command shelf told.NoMemory = ⊤
