-- Functions in an order in which those that a function runs stand before it.
use Rattle.std.proofs.Common.{◌≡◌, ◌<◌, ℕ, List, All, get_or, sym, subst}
use Rattle.lk_graph.specs.Graph.{AreAllBelow}
use Rattle.lk_links.proofs.SetLemmas.{has_id-at}

pub all_within : (n m : ℕ) (order ids : List ℕ) → ids ≡ order → m ≡ n → AreAllBelow m order → All (λ x. x < n) ids
all_within n m order ids same size all = subst (All (λ x. x < n)) (sym same) (λ i d below. subst (λ k. get_or order i d < k) size ((all (get_or order i d)).0 (has_id-at order i d below)))
