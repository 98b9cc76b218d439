use Rattle.std.proofs.Common.{take}
use Rattle.lk_sets.specs.Adding.{Adds, IsGiven}
use Rattle.lk_match.specs.Passages.{IsPassage}
use Rattle.lk_match.proofs.passage.unsorted.Given as goal

abbrev pub invariant-loop-edge : goal.invariant-loop-edge
invariant-loop-edge l = Adds (IsGiven (IsPassage l.side) (take l.edge-index l.edges)) l.initial.all.items l.all.items
