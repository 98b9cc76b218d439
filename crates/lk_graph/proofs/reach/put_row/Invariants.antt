use Rattle.std.proofs.Common.{◌≡◌, ◌||◌, ◌&&◌, ◌==◌, ℕ, take}
use Rattle.lk_sets.specs.Ids.{has_id}
use Rattle.lk_sets.specs.Rows.{has}
use Rattle.lk_graph.proofs.reach.put_row.Given as goal

abbrev pub invariant-loop-b : goal.invariant-loop-b
invariant-loop-b l = record {
  size : l.rows.size ≡ l.fn.rows.size;
  pairs : (x y : ℕ) → has l.rows x y ≡ (has l.fn.rows x y || (x == l.a && has_id (take l.b-index l.ids) y));
}
