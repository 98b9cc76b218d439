use Rattle.std.proofs.Common.{◌≡◌, length}
use Rattle.lk_graph.specs.Again.{AreSitesBelow}
use Rattle.lk_graph.proofs.again.put_sites.Given as goal

abbrev pub invariant-loop-point : goal.invariant-loop-point
invariant-loop-point l = record {
  once_size : l.once.size ≡ length l.points.functions;
  again_size : l.again.size ≡ length l.points.functions;
  sites : AreSitesBelow l.points l.point l.fn.again.list l.once.list l.again.list;
}
