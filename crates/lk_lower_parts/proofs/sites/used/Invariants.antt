use Rattle.std.proofs.Common.{◌≡◌, ◌<◌, ℕ, Some, length, true}
use Rattle.std.specs.Prelude.{◌↔◌, slice_get}
use Rattle.lk_lower_parts.specs.Sites.{IsNamedBefore}
use Rattle.lk_lower_parts.proofs.sites.used.Given as goal

abbrev pub invariant-loop-point : goal.invariant-loop-point
invariant-loop-point l = record {
  long : length l.used.items ≡ l.functions;
  each : (f : ℕ) → f < l.functions → (slice_get l.used.items f ≡ Some true) ↔ IsNamedBefore l.points l.point-index f;
}
