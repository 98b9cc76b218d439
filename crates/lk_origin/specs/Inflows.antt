-- What flows through one site: pairs of a label inside and a label outside.
use Rattle.std.specs.Prelude.{◌≡◌, ℕ, true}
use Rattle.lk_match.specs.declared.passage.Passage.{Passage}
use Rattle.lk_origin.specs.declared.inflow.Inflow.{Inflow}
use Rattle.lk_sets.specs.Rows.{Rows, has}

abbrev pub inflow_of : ℕ → ℕ → Inflow
inflow_of b m = record { inside = b; outside = m }

-- the label inside is in the level behind the entrance, which begins at the label outside
abbrev pub Enters : Rows → Passage → Inflow → Type 0
Enters levels entrance x = (has levels entrance.to x.inside ≡ true) × (entrance.from ≡ x.outside)

abbrev pub IsOutside : Inflow → ℕ → Type 0
IsOutside x m = x.outside ≡ m
