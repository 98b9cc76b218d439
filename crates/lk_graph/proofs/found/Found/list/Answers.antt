use Rattle.std.proofs.Common.{◌<◌, All, subst}
use Rattle.lk_graph.specs.Found.{FoundList}
use Rattle.lk_graph.proofs.FoundLemmas.{marked_below}
use Rattle.lk_graph.proofs.found.Found.list.Goals as goal

pub returns-clause-in_range : goal.returns-clause-in_range
returns-clause-in_range c =
    subst (λ (found : FoundList). All (λ x. x < found.size) found.list) c.self.view_is (marked_below c.self.inside.seen.items c.self.inside.list.items c.self.invariant)
