-- The locations at which there is a race in a state.
use Rattle.std.specs.Prelude.{◌≡◌, ◌↔◌, ℕ, true, not, List, map}
use Rattle.std.specs.List.{filter}
use Rattle.std.specs.List.Sorted.{IsStrictlyIncreasing}
use Rattle.lk_cells.specs.declared.state.State.{State}
use Rattle.lk_facts.specs.declared.program.Program.{Program}
use Rattle.lk_meaning.specs.Locations.{HasLocation}
use Rattle.lk_meaning.specs.Runs as runs
use Rattle.lk_play.specs.declared.lines.Line.{Line}
use Rattle.lk_play.specs.declared.lines.Line.TheVariants.{Race}
use Rattle.lk_sets.specs.Ids.{has_id}
use Rattle.lk_values.specs.declared.cell.Cell.{Cell}

-- two threads race in the state at a cell of this location
pub record HasRaceAt (program : Program) (s : State) (n : ℕ) : Type 0 where
  pub cell : Cell
  pub race : runs.Race program s cell
  pub of : HasLocation program s cell n

-- these are all such locations, in their order
pub record AreRaced (program : Program) (s : State) (ns : List ℕ) : Type 0 where
  pub in_order : IsStrictlyIncreasing ns
  pub each : (n : ℕ) → (has_id ns n ≡ true) ↔ HasRaceAt program s n

-- a line for each location of the second list that isn't in the first
abbrev pub race_lines : List ℕ → List ℕ → List Line
race_lines before now = map (λ n. Race n) (filter (λ n. not (has_id before n)) now)
