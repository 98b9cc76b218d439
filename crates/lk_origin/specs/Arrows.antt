-- The arrows along which origins flow.
use Rattle.std.specs.Prelude.{◌≡◌, Bool, true, false, List, ◌⊎◌}
use Rattle.lk_facts.specs.declared.edge.Edge.{Edge}
use Rattle.lk_facts.specs.declared.edge.Mark.{Mark}
use Rattle.lk_facts.specs.declared.edge.Mark.TheVariants.{Plain, Enter, Leave}
use Rattle.lk_match.specs.declared.passage.Side.{Side}
use Rattle.lk_match.specs.declared.passage.Side.TheVariants.{Into, OutOf}
use Rattle.lk_match.specs.declared.summary.SummaryEdge.{SummaryEdge}
use Rattle.lk_sets.specs.Adding.{IsGiven}
use Rattle.lk_sets.specs.declared.spread.Arrow.{Arrow}

-- whether an edge with this mark passes a site this way
abbrev pub passes : Side → Mark → Bool
passes side Plain = false
passes Into (Enter i) = true
passes OutOf (Enter i) = false
passes Into (Leave i) = false
passes OutOf (Leave i) = true

-- the arrow along a summary edge
abbrev pub IsAlong : SummaryEdge → Arrow → Type 0
IsAlong s arrow = record { from = s.from; into = s.to } ≡ arrow

-- the arrow along an edge that passes a site this way
abbrev pub IsArrow : Side → Edge → Arrow → Type 0
IsArrow side e arrow = (passes side e.mark ≡ true) × (record { from = e.from; into = e.to } ≡ arrow)

-- the arrow along a summary edge, or along an edge that passes a site this way
abbrev pub Flows : Side → List SummaryEdge → List Edge → Arrow → Type 0
Flows side summaries edges arrow = IsGiven IsAlong summaries arrow ⊎ IsGiven (IsArrow side) edges arrow
