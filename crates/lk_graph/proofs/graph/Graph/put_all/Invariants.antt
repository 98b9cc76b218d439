use Rattle.std.proofs.Common.{◌≡◌, ◌||◌, ◌&&◌, ◌==◌, ℕ, length, take}
use Rattle.lk_graph.specs.Graph.{leads}
use Rattle.lk_sets.specs.Ids.{has_id}
use Rattle.lk_graph.proofs.graph.Graph.put_all.Given as goal

abbrev pub invariant-loop-a : goal.invariant-loop-a
invariant-loop-a l = record {
  size : length l.self ≡ length l.fn.self;
  arrows : (x y : ℕ) → leads l.self x y ≡ (leads l.fn.self x y || (has_id (take l.a-index l.from) x && y == l.into));
}
