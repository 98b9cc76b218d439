use Rattle.std.proofs.Common.{◌≡◌, ◌<◌, ℕ, length}
use Rattle.lk_lower_unit.specs.Placed.{ArePlaced}
use Rattle.lk_lower_unit.proofs.place.all_points.Given as goal

abbrev pub invariant-loop-source : goal.invariant-loop-source
invariant-loop-source l = record {
  many : length l.points.items ≡ l.count;
  placed : (t : ℕ) → t < l.source → ArePlaced l.given l.types t l.points.items;
}
