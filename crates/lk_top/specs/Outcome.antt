-- What a command comes to: which of usage, a missing file, a refusal, or sources that are accepted for its task.
use Rattle.std.specs.Prelude.{ℕ, ◌≡◌, List, [], ◌∷◌, Some, None}
use Rattle.lk_base.specs.declared.code.Code.TheVariants.{BadSchedule, TooLong}
use Rattle.lk_base.specs.declared.refusal.Refusal.{Refusal}
use Rattle.lk_io.specs.Shelf.{Held}
use Rattle.lk_play.specs.Schedules.{HasBadLine, IsSchedule}
use Rattle.lk_play.specs.declared.schedules.Turn.{Turn}
use Rattle.lk_sources.specs.Accepting.{HasBadExterns, IsAcceptedWith, IsRefusedWith}
use Rattle.lk_sources.specs.Externs.{Names, externs_text, listed}
use Rattle.lk_sources.specs.Numbers.{numbered, refusal_at}
use Rattle.lk_sources.specs.Reading as reading
use Rattle.lk_sources.specs.declared.accepting.Accepted as code
use Rattle.lk_sources.specs.declared.reading.Source.{Source}
use Rattle.lk_typed.specs.Env.{Name}
use Rattle.lk_words.specs.Words.{Check, Command, Order, Play, Task, command}

-- what is done with accepted sources: they are checked, the order of their mutexes is told, or a run of them
-- is played by these turns
pub data Errand : Type 0 where
  Checks : Errand
  Orders : Errand
  Plays : List Turn → Errand

pub data Outcome : Type 0 where
  Usage : Outcome
  Missing : (name : List ℕ) → Outcome
  Refused : (file : List ℕ) (refusal : Refusal) → Outcome
  -- of sources that are read, split, parsed and checked
  Accepted : Errand → code.Accepted → Outcome

-- a play by the turns of the schedule in the first of these files
abbrev pub PlaysBy : List Source → Errand → Type 0
PlaysBy [] errand = ⊥
PlaysBy (schedule ∷ others) errand =
    (turns : List Turn) × IsSchedule schedule.bytes turns × (errand ≡ Plays turns)

-- what a task asks, by the file that it reads beside the sources
abbrev pub IsErrand : Task → List Source → Errand → Type 0
IsErrand Check others errand = errand ≡ Checks
IsErrand Order others errand = errand ≡ Orders
IsErrand (Play schedule) others errand = PlaysBy others errand

-- the first of these files is no schedule: it has a line that is neither empty nor a turn, and is refused there
pub record HasBadSchedule (names : List (List ℕ)) (others : List Source) (file : List ℕ)
    (refusal : Refusal) : Type 0 where
  pub first : Source
  pub more : List Source
  pub line : ℕ
  pub are : others ≡ first ∷ more
  pub bad : HasBadLine first.bytes line
  pub file_is : file ≡ first.name
  pub is : refusal ≡ refusal_at names file BadSchedule line

-- why that file asks nothing, where these are the names of files so far
abbrev pub AsksNothing : Task → List (List ℕ) → List Source → List ℕ → Refusal → Type 0
AsksNothing Check names others file refusal = ⊥
AsksNothing Order names others file refusal = ⊥
AsksNothing (Play schedule) names others file refusal = HasBadSchedule names others file refusal

-- what sources come to for an errand, where --externs lists these names
pub data IsFor (errand : Errand) (names : List (List ℕ)) (listing : List Name) (sources : List Source) :
    Outcome → Type 0 where
  refused : (file : List ℕ) (refusal : Refusal) → IsRefusedWith names listing sources file refusal →
      IsFor errand names listing sources (Refused file refusal)
  accepted : (result : code.Accepted) → IsAcceptedWith names listing sources result →
      IsFor errand names listing sources (Accepted errand result)

-- What files that are read come to. A bad line of the file of --externs is told first, then that the file beside the
-- sources asks nothing, then what the sources come to.
pub data Becomes (task : Task) (names : List (List ℕ)) (externs others sources : List Source) : Outcome → Type 0 where
  bad_externs : (file : List ℕ) (refusal : Refusal) → HasBadExterns names externs file refusal →
      Becomes task names externs others sources (Refused file refusal)
  no_errand : (listing : List Name) (file : List ℕ) (refusal : Refusal) →
      listed (externs_text externs) ≡ Names listing → AsksNothing task names others file refusal →
      Becomes task names externs others sources (Refused file refusal)
  with_errand : (listing : List Name) (errand : Errand) (outcome : Outcome) →
      listed (externs_text externs) ≡ Names listing → IsErrand task others errand →
      IsFor errand names listing sources outcome → Becomes task names externs others sources outcome

-- ---- what a command comes to

-- over the files that are held: a file is not there, or is too long; else what the files become
pub data Follows (asked : Command) (held : Held) : Outcome → Type 0 where
  missing : (name : List ℕ) → reading.ComesTo asked held name → held name ≡ None →
      Follows asked held (Missing name)
  too_long : (file : List ℕ) → reading.IsTooLong asked held file →
      Follows asked held (Refused file (refusal_at (numbered asked) file TooLong 1))
  read : (externs others sources : List Source) (outcome : Outcome) →
      reading.IsRead asked held externs others sources →
      Becomes asked.task (numbered asked) externs others sources outcome → Follows asked held outcome

-- what words come to over these files
pub data ComesTo (words : List (List ℕ)) (held : Held) : Outcome → Type 0 where
  no_command : command words ≡ None → ComesTo words held Usage
  follows : (asked : Command) (outcome : Outcome) → command words ≡ Some asked → Follows asked held outcome →
      ComesTo words held outcome
