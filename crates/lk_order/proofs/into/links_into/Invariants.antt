use Rattle.std.proofs.Common.{◌≡◌, ◌<◌, ℕ, length}
use Rattle.lk_rise.specs.Links.{going_into, links_into}
use Rattle.lk_order.proofs.into.links_into.Given as goal

abbrev pub invariant-loop-function : goal.invariant-loop-function
invariant-loop-function l = record {
  long : length l.into.items ≡ l.function;
  each : (h : ℕ) → h < l.function → links_into l.into.items h ≡ going_into l.all.items h;
}
