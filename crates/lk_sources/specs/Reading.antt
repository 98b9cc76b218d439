-- The reading of a command's files: that of --externs first, then the one that its task reads beside the sources,
-- then each FILE in the order of the words. A FILE that is named twice is read twice, and counts twice.
use Rattle.std.specs.Prelude.{ℕ, ◌≡◌, ◌-◌, ◌≤◌, ◌⊎◌, List, [], ◌∷◌, ◌++◌, length, Option, Some, None}
use Rattle.lk_io.specs.Shelf.{Held, IsLonger}
use Rattle.lk_words.specs.Words.{Check, Command, Order, Play, Task, beside}
use Rattle.lk_sources.specs.declared.reading.Source.{Source}

-- the most bytes of the file of --externs, and those of all sources together
abbrev pub longest_externs : ℕ
longest_externs = 65536

abbrev pub longest_sources : ℕ
longest_sources = 1048576

-- the most bytes of the file that a task reads beside them
abbrev pub longest_beside : Task → ℕ
longest_beside Check = 0
longest_beside Order = 0
longest_beside (Play schedule) = 65536

-- a file, where the command names it
abbrev pub names_of : Option (List ℕ) → List (List ℕ)
names_of None = []
names_of (Some name) = name ∷ []

abbrev pub source : List ℕ → List ℕ → Source
source name bytes = record { name = name; bytes = bytes }

-- The files of these names, in order. Of so many bytes that they may have together, so many are left.
pub data AreRead (held : Held) : ℕ → List (List ℕ) → List Source → ℕ → Type 0 where
  nothing : {most : ℕ} → AreRead held most [] [] most
  next : {most left : ℕ} {name bytes : List ℕ} {names : List (List ℕ)} {sources : List Source} →
      held name ≡ Some bytes → length bytes ≤ most → AreRead held (most - length bytes) names sources left →
      AreRead held most (name ∷ names) (source name bytes ∷ sources) left

-- This file is the first with which they pass that number. Each before it is there.
pub data Passes (held : Held) : ℕ → List (List ℕ) → List ℕ → Type 0 where
  here : {most : ℕ} {name : List ℕ} {names : List (List ℕ)} → IsLonger (held name) most →
      Passes held most (name ∷ names) name
  behind : {most : ℕ} {name bytes other : List ℕ} {names : List (List ℕ)} → held name ≡ Some bytes →
      length bytes ≤ most → Passes held (most - length bytes) names other →
      Passes held most (name ∷ names) other

-- the name is one of these
abbrev pub IsAmong : List (List ℕ) → List ℕ → Type 0
IsAmong names name = (before : List (List ℕ)) × (after : List (List ℕ)) × (names ≡ before ++ name ∷ after)

-- The reading comes to this file: each before it is there, and with none they pass that number.
pub record Reaches (held : Held) (most : ℕ) (names : List (List ℕ)) (name : List ℕ) : Type 0 where
  pub before : List (List ℕ)
  pub after : List (List ℕ)
  pub whole : names ≡ before ++ name ∷ after
  pub sources : List Source
  pub left : ℕ
  pub read : AreRead held most before sources left

-- ---- the files of a command

-- the file of --externs and the one beside the sources
pub record AreOwnRead (command : Command) (held : Held) (externs others : List Source) : Type 0 where
  pub externs_left : ℕ
  pub externs_read : AreRead held longest_externs (names_of command.externs) externs externs_left
  pub others_left : ℕ
  pub others_read : AreRead held (longest_beside command.task) (names_of (beside command.task)) others others_left

-- all of them
pub record IsRead (command : Command) (held : Held) (externs others sources : List Source) : Type 0 where
  pub own : AreOwnRead command held externs others
  pub sources_left : ℕ
  pub sources_read : AreRead held longest_sources command.files sources sources_left

-- the command names this file
abbrev pub IsNamed : Command → List ℕ → Type 0
IsNamed command name =
    IsAmong (names_of command.externs) name
    ⊎ (IsAmong (names_of (beside command.task)) name ⊎ IsAmong command.files name)

-- the first file that is too long
pub data IsTooLong (command : Command) (held : Held) (name : List ℕ) : Type 0 where
  long_externs : Passes held longest_externs (names_of command.externs) name → IsTooLong command held name
  long_beside : (read : List Source) (left : ℕ) →
      AreRead held longest_externs (names_of command.externs) read left →
      Passes held (longest_beside command.task) (names_of (beside command.task)) name → IsTooLong command held name
  long_sources : (externs others : List Source) → AreOwnRead command held externs others →
      Passes held longest_sources command.files name →
      IsTooLong command held name

-- the reading comes to this file
pub data ComesTo (command : Command) (held : Held) (name : List ℕ) : Type 0 where
  at_externs : Reaches held longest_externs (names_of command.externs) name → ComesTo command held name
  at_beside : (read : List Source) (left : ℕ) →
      AreRead held longest_externs (names_of command.externs) read left →
      Reaches held (longest_beside command.task) (names_of (beside command.task)) name → ComesTo command held name
  at_sources : (externs others : List Source) → AreOwnRead command held externs others →
      Reaches held longest_sources command.files name →
      ComesTo command held name
