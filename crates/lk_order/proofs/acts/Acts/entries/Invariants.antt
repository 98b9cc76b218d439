use Rattle.std.proofs.Common.{◌≡◌, ◌<◌, ◌↔◌, ℕ, true, Some}
use Rattle.lk_facts.specs.Program.{entry_of}
use Rattle.lk_sets.specs.Ids.{has_id}
use Rattle.lk_order.proofs.acts.Acts.entries.Given as goal

abbrev pub invariant-loop-function : goal.invariant-loop-function
invariant-loop-function l =
    (p : ℕ) → (has_id l.ids.items p ≡ true) ↔ ((f : ℕ) × (f < l.function) × (entry_of l.self.points.now f ≡ Some p))
