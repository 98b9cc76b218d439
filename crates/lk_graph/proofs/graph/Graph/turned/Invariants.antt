use Rattle.std.proofs.Common.{◌≡◌, ◌&&◌, ℕ, length, nat_lt}
use Rattle.lk_graph.specs.Graph.{leads}
use Rattle.lk_graph.proofs.graph.Graph.turned.Given as goal

abbrev pub invariant-loop-a : goal.invariant-loop-a
invariant-loop-a l = record {
  size : length l.turned ≡ length l.self;
  arrows : (x y : ℕ) → leads l.turned x y ≡ (nat_lt y l.a && leads l.self y x);
}
