-- Laws of commands and of what their sources come to. Each is the contract of a function.
use Rattle.std.specs.Prelude.{ℕ, ◌≡◌, true, List, Some}
use Rattle.lk_base.specs.declared.refusal.Refusal.{Refusal}
use Rattle.lk_io.specs.Shelf.{Held}
use Rattle.lk_words.specs.Words.{Command, Word, command, is_in_bounds}
use Rattle.lk_sources.specs.Accepting.{IsAcceptedFor, IsRefusedFor, IsAccepted, IsRefused, units_of}
use Rattle.lk_sources.specs.Reading.{IsRead, IsTooLong}
use Rattle.lk_sources.specs.declared.accepting.Accepted.{Accepted}
use Rattle.lk_sources.specs.declared.reading.Source.{Source}

-- what words spell is in bounds
abbrev pub CommandsAreInBounds : Type 0
CommandsAreInBounds = (words : List Word) (named : Command) → command words ≡ Some named →
    is_in_bounds named ≡ true

-- a command's files are read in one way
abbrev pub HasOneReading : Type 0
HasOneReading =
    (named : Command) (held : Held) (externs others sources externs2 others2 sources2 : List Source) →
    IsRead named held externs others sources → IsRead named held externs2 others2 sources2 →
    (externs ≡ externs2) × (others ≡ others2) × (sources ≡ sources2)

-- where they are read, none is too long
abbrev pub NeverTooLong : Type 0
NeverTooLong = (named : Command) (held : Held) (externs others sources : List Source) (name : List ℕ) →
    IsRead named held externs others sources → IsTooLong named held name → ⊥

-- two results of one command have the same names, trees and numbers of files
pub record IsAlike (one other : Accepted) : Type 0 where
  pub externs : one.externs.items ≡ other.externs.items
  pub units : units_of one.sources.items ≡ units_of other.sources.items
  pub files : one.files ≡ other.files

-- files that are read are accepted with one result
abbrev pub HasOneResult : Type 0
HasOneResult = (names : List (List ℕ)) (externs sources : List Source) (one other : Accepted) →
    IsAccepted names externs sources one → IsAccepted names externs sources other → IsAlike one other

-- and where they are, they are not refused
abbrev pub NeverRefused : Type 0
NeverRefused =
    (names : List (List ℕ)) (externs sources : List Source) (accepted : Accepted) (file : List ℕ)
    (refusal : Refusal) → IsAccepted names externs sources accepted →
    IsRefused names externs sources file refusal → ⊥

-- the same of a command over the files that a shelf holds
abbrev pub HasOneResultFor : Type 0
HasOneResultFor = (named : Command) (held : Held) (one other : Accepted) → IsAcceptedFor named held one →
    IsAcceptedFor named held other → IsAlike one other

abbrev pub NeverRefusedFor : Type 0
NeverRefusedFor = (named : Command) (held : Held) (accepted : Accepted) (file : List ℕ) (refusal : Refusal) →
    IsAcceptedFor named held accepted → IsRefusedFor named held file refusal → ⊥
