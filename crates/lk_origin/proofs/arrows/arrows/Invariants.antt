use Rattle.std.proofs.Common.{take}
use Rattle.lk_sets.specs.Adding.{Adds, IsGiven}
use Rattle.lk_origin.specs.Arrows.{IsArrow}
use Rattle.lk_origin.proofs.arrows.arrows.Given as goal

abbrev pub invariant-loop-edge : goal.invariant-loop-edge
invariant-loop-edge l = Adds (IsGiven (IsArrow l.side) (take l.edge-index l.edges)) l.initial.arrows.items l.arrows.items
