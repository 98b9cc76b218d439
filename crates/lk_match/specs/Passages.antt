-- Edges that pass a site.
use Rattle.std.specs.Prelude.{◌≡◌, ℕ}
use Rattle.lk_facts.specs.declared.edge.Edge.{Edge}
use Rattle.lk_facts.specs.declared.edge.Mark.{Mark}
use Rattle.lk_facts.specs.declared.edge.Mark.TheVariants.{Enter, Leave}
use Rattle.lk_facts.specs.Paths.{edge_of}
use Rattle.lk_match.specs.declared.passage.Passage.{Passage}
use Rattle.lk_match.specs.declared.passage.Side.{Side}
use Rattle.lk_match.specs.declared.passage.Side.TheVariants.{Into, OutOf}

-- the mark of an edge that passes a site this way
abbrev pub mark_of : Side → ℕ → Mark
mark_of Into i = Enter i
mark_of OutOf i = Leave i

-- the passage is this edge
abbrev pub IsPassage : Side → Edge → Passage → Type 0
IsPassage side e passage = e ≡ edge_of passage.from passage.to (mark_of side passage.site)
