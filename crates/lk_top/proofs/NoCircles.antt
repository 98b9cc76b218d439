-- Where the order of mutexes has no cycle, no threads wait in a circle: it is that of points that were lowered.
use Rattle.std.proofs.Common.{◌≡◌, false, true}
use Rattle.lk_circles.specs.Circles.{HasNoCircle, OrderExcludesCircles}
use Rattle.lk_facts.specs.Facts.{basis_of, facts_of}
use Rattle.lk_facts.specs.InRange.{IsInRange}
use Rattle.lk_facts.specs.Lowered.{IsLowered}
use Rattle.lk_facts.specs.declared.program.Program.{Program}
use Rattle.lk_order.specs.Table.{OrderTable}
use Rattle.lk_right.specs.Laws.{IsAnalysed}
use Rattle.lk_top.specs.Orders.{HasOrder}
use Rattle.lk_types.specs.Building.{IsTable}

module _ (program : Program) (order : OrderTable) (in_range : IsInRange program) (table : IsTable program.types) (lowered : IsLowered program) (has : HasOrder program order) where
  is_analysed : IsAnalysed program has.labels has.flow.edges
  is_analysed = record {
    table = table;
    in_range = in_range;
    lowered = lowered;
    labelled = has.are_labels;
    few_labels = has.in_range;
    joined = has.flow.are_edges;
  }

  pub no_circle : OrderExcludesCircles → order.cyclic ≡ false → HasNoCircle program
  no_circle law none =
      law (basis_of (facts_of program has.labels has.origins)) has.flow.edges is_analysed has.flow.flow has.linear (λ q is. (has.is_linear q).0 is)
      (λ q lies. let some : order.cyclic ≡ true = has.follows.cyclic.1 (q, lies) in cc)
