use Rattle.std.proofs.Common.{subst}
use Rattle.lk_facts.proofs.Numbers.{different}
use Rattle.lk_facts.specs.Places.{AreDifferent}
use Rattle.lk_flow.proofs.SameEdge.{same_edge, edge_itself}
use Rattle.lk_flow.proofs.found.Found.list.Goals as goal

pub returns-clause-different : goal.returns-clause-different
returns-clause-different c = subst AreDifferent c.self.view_is (different _ same_edge edge_itself _ c.as_slice.ensures.unique)
