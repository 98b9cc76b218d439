use Rattle.std.proofs.Common.{◌≡◌, take}
use Rattle.std.specs.Prelude.{IfSome}
use Rattle.lk_types.specs.Building.{IsLonger}
use Rattle.lk_types.specs.Table.{IsKnown}
use Rattle.lk_typed.specs.Elements.{HasFewElements}
use Rattle.lk_typed.specs.Meaning.{IsReady}
use Rattle.lk_elaborator.proofs.Finishing.{IsSoFar}
use Rattle.lk_elaborator.proofs.entities.composite_of.Given as goal

abbrev pub invariant-loop-declaration : goal.invariant-loop-declaration
invariant-loop-declaration l = record {
  few : HasFewElements l.types;
  known : IfSome l.before (IsKnown l.types);
  longer : IsLonger l.initial.types l.types;
  members : l.types.members ≡ l.initial.types.members;
  ready : IsReady l.initial.types → IsReady l.types;
  so_far : IsReady l.initial.types → IsSoFar l.types (take l.declaration-index l.declarations) l.before;
}
