use Rattle.std.proofs.Common.{◌≡◌, ◌<◌, ℕ, List, length, subst, true}
use Rattle.lk_graph.specs.Graph.{leads}
use Rattle.lk_graph.proofs.GraphLemmas.{leads_within}
use Rattle.lk_graph.proofs.graph.Graph.size.Goals as goal

pub returns-clause-within : goal.returns-clause-within
returns-clause-within c =
    subst (λ (graph : List (List ℕ)). (a b : ℕ) → leads graph a b ≡ true → (a < length graph) × (b < length graph)) c.self.view_is (leads_within c.self.inside.size c.self.inside.ends.items c.self.invariant)
