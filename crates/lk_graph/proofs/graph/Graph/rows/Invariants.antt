use Rattle.std.proofs.Common.{◌≡◌, ◌&&◌, ℕ, length, nat_lt}
use Rattle.lk_graph.specs.Graph.{leads}
use Rattle.lk_sets.specs.Rows.{has}
use Rattle.lk_graph.proofs.graph.Graph.rows.Given as goal

abbrev pub invariant-loop-a : goal.invariant-loop-a
invariant-loop-a l = record {
  size : l.rows.size ≡ length l.self;
  pairs : (x y : ℕ) → has l.rows x y ≡ (nat_lt x l.a && leads l.self x y);
}
