use Rattle.std.proofs.Common.{◌≡◌, ◌+◌, ◌-◌, ℕ, drop, get_or, length}
use Rattle.lk_lower_expr.specs.Lowering.{is_body_of, place_in}
use Rattle.lk_lower_parts.proofs.counts.of_source.Given as goal

abbrev pub invariant-loop-k : goal.invariant-loop-k
invariant-loop-k l = record {
  long : length l.row.items ≡ length l.linked.unit.entities;
  numbered : (e : ℕ) → get_or l.row.items e l.none ≡ (l.first + (length l.bodies - l.k)) + place_in (is_body_of e) (drop (length l.bodies - l.k) l.bodies);
}
