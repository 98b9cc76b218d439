use Rattle.std.proofs.Common.{◌≡◌, ◌<◌, ◌≤◌, ℕ, Some, length, slice_get}
use Rattle.lk_types.specs.Building.{IsLonger}
use Rattle.lk_typed.specs.Elements.{HasFewElements}
use Rattle.lk_typed.specs.Meaning.{IsReady}
use Rattle.lk_typed.specs.declared.entity.Entity.{Entity}
use Rattle.lk_elaborator.specs.Gathering.{IsFinished}
use Rattle.lk_elaborator.proofs.entities.Entities.into_list.Given as goal

abbrev pub invariant-loop-entity : goal.invariant-loop-entity
invariant-loop-entity l = record {
  few : HasFewElements l.types;
  longer : IsLonger l.initial.types l.types;
  members : l.types.members ≡ l.initial.types.members;
  ready : IsReady l.initial.types → IsReady l.types;
  same : length l.entity-items ≡ length l.initial.entity-items;
  finished : IsReady l.initial.types → (e : ℕ) (was entity : Entity) → e < l.entity-index → slice_get l.initial.entity-items e ≡ Some was → slice_get l.entity-items e ≡ Some entity →
      IsFinished l.types.types l.records.first_uses was entity;
  others : (e : ℕ) → l.entity-index ≤ e → slice_get l.entity-items e ≡ slice_get l.initial.entity-items e;
}
