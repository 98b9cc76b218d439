use Rattle.std.proofs.Common.{◌≡◌, ◌<◌, ◌+◌, ℕ, Some, length, slice_get}
use Rattle.lk_lower_parts.proofs.Making.{AreKept}
use Rattle.lk_lower_parts.specs.MadeFunctions.{StandsMade}
use Rattle.lk_typed.specs.declared.unit.Body.{Body}
use Rattle.lk_lower_parts.proofs.names.Given.push_functions.Given as goal

abbrev pub invariant-loop-body : goal.invariant-loop-body
invariant-loop-body l = record {
  as_many : length l.functions.items ≡ length l.initial.functions.items + l.body-index;
  kept : AreKept l.initial.functions.items l.functions.items;
  each : (b : ℕ) (body : Body) → b < l.body-index → slice_get l.body-items b ≡ Some body →
      StandsMade l.self.whole.now l.source l.linked l.points l.by_node l.slots body (length l.initial.functions.items + b) l.functions.items;
}
