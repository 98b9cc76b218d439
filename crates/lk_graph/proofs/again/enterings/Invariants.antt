use Rattle.std.proofs.Common.{◌<◌, All, length}
use Rattle.lk_graph.specs.Again.{AreEnterings}
use Rattle.lk_graph.specs.declared.again.Entering.{Entering}
use Rattle.lk_graph.proofs.again.enterings.Given as goal

abbrev pub invariant-loop-point : goal.invariant-loop-point
invariant-loop-point l = record {
  members : AreEnterings l.points l.point l.found.items;
  in_range : All (λ (e : Entering). e.below < length l.points.functions) l.found.items;
}
