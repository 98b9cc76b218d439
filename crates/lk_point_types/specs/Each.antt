-- What is asked of one point and of one root, so that a program has types as `HaveTypes` says. Only the
-- private calls of this crate speak of it.
use Rattle.std.specs.Prelude.{◌≡◌, ◌<◌, ℕ, List, Some, length}
use Rattle.lk_base.specs.declared.cell.CellStep.{CellStep}
use Rattle.lk_facts.specs.Lowered.{IsArgument, IsString, IsText}
use Rattle.lk_facts.specs.Program.{action_at, function_at, parameter_of, root_at}
use Rattle.lk_facts.specs.Typed.{IsForm, IsFunctionTyped, IsHolderType, IsTyped, PointsTo}
use Rattle.lk_facts.specs.declared.action.Action.{Action}
use Rattle.lk_facts.specs.declared.action.Action.TheVariants.{Fill, Text as OfText}
use Rattle.lk_facts.specs.declared.place.Place.{Place}
use Rattle.lk_facts.specs.declared.program.Program.{Program}
use Rattle.lk_facts.specs.declared.root.Holder.{Holder}
use Rattle.lk_facts.specs.declared.root.Root.{Root}
use Rattle.lk_types.specs.Equal.{IsAlike}
use Rattle.lk_types.specs.declared.c_type.CType.TheVariants.{Pointer}
use Rattle.lk_point_types.specs.Filled.{LeadsToNode}

module _ (program : Program) where
  -- what is equal to a type to which the point gives a pointer, but for the sizes
  -- of arrays, is so to the type t
  abbrev pub StandsForTargets : (p t : ℕ) → Type 0
  StandsForTargets p t = (u v : ℕ) → PointsTo program p u → IsAlike program.types.types v u →
      IsAlike program.types.types v t

  -- where the action fills cells, its operand points to those of the place that it names
  abbrev pub FillsItsPlace : Action → Type 0
  FillsItsPlace action = (a : ℕ) (place : Place) (named : List (List CellStep)) →
      action ≡ Fill a place named → LeadsToNode program a place.node

  abbrev pub HasItsPlace : ℕ → Type 0
  HasItsPlace p = (a : ℕ) (place : Place) (named : List (List CellStep)) →
      action_at program p ≡ Some (Fill a place named) → LeadsToNode program a place.node

  -- what the point takes and gives has the types that its action needs
  abbrev pub IsPointTyped : ℕ → Type 0
  IsPointTyped p = (f : ℕ) (action : Action) → action_at program p ≡ Some action →
      function_at program p ≡ Some f → IsTyped program p f action

  -- the text to which the point gives a pointer has its bytes
  abbrev pub HasItsText : ℕ → Type 0
  HasItsText p = (r : ℕ) → action_at program p ≡ Some (OfText r) → IsText program r

  -- the root has its type, where it is one of main's arguments
  abbrev pub IsArgumentAt : ℕ → Type 0
  IsArgumentAt r = (root : Root) → root_at program r ≡ Some root → IsArgument program root.kind root.ty

  -- main's second parameter points to strings
  abbrev pub IsMainTyped : Type 0
  IsMainTyped = (holder : Holder) (t : ℕ) → parameter_of program program.main 2 ≡ Some holder →
      IsHolderType program holder t →
      (string : ℕ) × IsForm program.types t (Pointer string) × IsString program string

  -- ---- of all of them

  abbrev pub IsCodeTyped : Type 0
  IsCodeTyped =
      ((p : ℕ) → HasItsPlace p × IsPointTyped p)
      × ((f : ℕ) → f < length program.functions → IsFunctionTyped program f)

  abbrev pub AreObjectsTyped : Type 0
  AreObjectsTyped = ((p : ℕ) → HasItsText p) × ((r : ℕ) → IsArgumentAt r)

  abbrev pub IsDataTyped : Type 0
  IsDataTyped = AreObjectsTyped × IsMainTyped
