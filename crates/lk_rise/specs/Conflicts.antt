-- The racing items of a program, as they are handed on.
use Rattle.std.specs.Prelude.{◌≡◌, ◌<◌, ℕ, Bool, true, List, [], length, slice_index_or}
use Rattle.lk_facts.specs.Basis.{Basis}
use Rattle.lk_facts.specs.Verdicts.{AreRacing}
use Rattle.lk_facts.specs.declared.verdict.Racing.{Racing}
use Rattle.lk_rise.specs.Correlations.{has_of, locks_of}
use Rattle.lk_rise.specs.declared.conflicts.RaceItem.{RaceItem}
use Rattle.lk_rise.specs.declared.correlations.Correlation.{Correlation}

pub record ConflictTable : Type 0 where
  -- each racing item with the locks that are held there
  pub entries : List (Correlation × List ℕ)
  -- the same racing items, by their locations
  pub races : List RaceItem
  -- for each location the racing accesses of main
  pub racing : List (List Racing)

abbrev pub conflicts_of : List (Correlation × List ℕ) → List RaceItem → List (List Racing) → ConflictTable
conflicts_of entries races racing = record { entries = entries; races = races; racing = racing }

-- the racing item of a correlation whose subject is a location
abbrev pub race_with : Correlation → RaceItem
race_with correlation =
    record { function = correlation.function; child = correlation.child; location = correlation.subject; access = correlation.access }

abbrev pub race_in : Correlation × List ℕ → RaceItem
race_in entry = race_with entry.0

-- the racing accesses of main for a location, none past the end
abbrev pub racing_of : ConflictTable → ℕ → List Racing
racing_of conflicts o = slice_index_or conflicts.racing o []

-- each lock place counts, linear or not
abbrev pub every_place : ℕ → Bool
every_place q = true

-- For each location its list has just the racing accesses of main, each with the lock places of its lock set
-- before it is asked which of them are linear.
pub record AreRacingLists (basis : Basis) (entries : List (Correlation × List ℕ))
    (racing : List (List Racing)) : Type 0 where
  pub each : length racing ≡ basis.program.locations
  pub are : (o : ℕ) → o < basis.program.locations →
      AreRacing basis (has_of entries) (locks_of entries) every_place o (slice_index_or racing o [])
