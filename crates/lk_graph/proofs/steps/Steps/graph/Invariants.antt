use Rattle.std.proofs.Common.{◌≡◌, ◌&&◌, ℕ, length, nat_lt}
use Rattle.lk_graph.specs.Graph.{leads}
use Rattle.lk_graph.specs.Steps.{steps_at}
use Rattle.lk_sets.specs.Ids.{has_id}
use Rattle.lk_graph.proofs.steps.Steps.graph.Given as goal

abbrev pub invariant-loop-point : goal.invariant-loop-point
invariant-loop-point l = record {
  size : length l.graph ≡ length l.points.points;
  arrows : (p q : ℕ) → leads l.graph p q ≡ (nat_lt p l.point && has_id (steps_at l.self l.points p) q);
}
