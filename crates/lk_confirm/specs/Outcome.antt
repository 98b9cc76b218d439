-- What a command comes to: which of usage, a missing file, a refusal, or sources that are accepted.
use Rattle.std.specs.Prelude.{ℕ, ◌≡◌, List, None}
use Rattle.lk_base.specs.declared.refusal.Refusal.{Refusal}
use Rattle.lk_io.specs.Shelf.{Held}
use Rattle.lk_words.specs.Words.{Command}
use Rattle.lk_confirm.specs.Words.{Asked, IsAsked, IsNoCommand}
use Rattle.lk_base.specs.declared.code.Code.TheVariants.{TooLong}
use Rattle.lk_sources.specs.Accepting.{IsAccepted, IsRefused}
use Rattle.lk_sources.specs.Numbers.{numbered, refusal_at}
use Rattle.lk_sources.specs.Reading as reading
use Rattle.lk_sources.specs.declared.accepting.Accepted as code
use Rattle.lk_sources.specs.declared.reading.Source.{Source}

pub data Outcome : Type 0 where
  Usage : Outcome
  Missing : (name : List ℕ) → Outcome
  -- with the name of the file in which its place stands
  Refused : (file : List ℕ) (refusal : Refusal) → Outcome
  -- of sources that are read, split, parsed and checked
  Accepted : code.Accepted → Outcome

-- what files that are read come to, where these are the names of files so far
pub data Becomes (names : List (List ℕ)) (externs sources : List Source) : Outcome → Type 0 where
  refused : (file : List ℕ) (refusal : Refusal) → IsRefused names externs sources file refusal →
      Becomes names externs sources (Refused file refusal)
  accepted : (result : code.Accepted) → IsAccepted names externs sources result →
      Becomes names externs sources (Accepted result)

-- ---- what a command comes to

-- over the files that are held: a file is not there, or is too long; else what the files become
pub data Follows (check : Command) (held : Held) : Outcome → Type 0 where
  missing : (name : List ℕ) → reading.ComesTo check held name → held name ≡ None →
      Follows check held (Missing name)
  too_long : (file : List ℕ) → reading.IsTooLong check held file →
      Follows check held (Refused file (refusal_at (numbered check) file TooLong 1))
  read : (externs others sources : List Source) (outcome : Outcome) →
      reading.IsRead check held externs others sources →
      Becomes (numbered check) externs sources outcome → Follows check held outcome

-- what words come to over these files
pub data ComesTo (words : List (List ℕ)) (held : Held) : Outcome → Type 0 where
  no_command : IsNoCommand words → ComesTo words held Usage
  follows : (asked : Asked) (outcome : Outcome) → IsAsked words asked → Follows asked.check held outcome →
      ComesTo words held outcome
