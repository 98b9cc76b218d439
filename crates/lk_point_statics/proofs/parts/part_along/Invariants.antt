use Rattle.std.proofs.Common.{ℕ, ◌↔◌, drop}
use Rattle.lk_facts.specs.Typed.{HasPartAt}
use Rattle.lk_types.specs.Table.{IsKnown}
use Rattle.lk_point_statics.proofs.parts.part_along.Given as goal

-- what is left of the path leads on from the part to which the loop has come, exactly where the whole path leads
abbrev pub invariant-loop-step : goal.invariant-loop-step
invariant-loop-step l = record {
  known : IsKnown l.types l.reached;
  leads : (u : ℕ) → HasPartAt l.types l.reached (drop l.step-index l.path) u ↔ HasPartAt l.types l.fn.t l.path u;
}
