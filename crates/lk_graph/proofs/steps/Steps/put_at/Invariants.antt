use Rattle.std.proofs.Common.{◌≡◌, ◌||◌, ◌&&◌, ◌==◌, ℕ, length, take}
use Rattle.lk_graph.specs.Graph.{leads}
use Rattle.lk_graph.specs.Steps.{counts}
use Rattle.lk_sets.specs.Ids.{has_id}
use Rattle.lk_graph.proofs.steps.Steps.put_at.Given as goal

abbrev pub invariant-loop-next : goal.invariant-loop-next
invariant-loop-next l = record {
  size : length l.graph ≡ length l.points.points;
  arrows : (p q : ℕ) → leads l.graph p q
      ≡ (leads l.fn.graph p q || (p == l.point && (counts l.self l.points q && has_id (take l.next-index l.next-items) q)));
}
