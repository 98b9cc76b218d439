use Rattle.std.proofs.Common.{◌≡◌, ◌&&◌, ℕ, nat_lt}
use Rattle.lk_sets.specs.Ids.{has_id}
use Rattle.lk_graph.specs.Again.{is_many_at}
use Rattle.lk_graph.proofs.again.performed_again.Given as goal

abbrev pub invariant-loop-point : goal.invariant-loop-point
invariant-loop-point l = (p : ℕ) → has_id l.ids.items p ≡ (nat_lt p l.point && is_many_at l.points l.cycles l.again.list p)
