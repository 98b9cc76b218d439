-- The types of a program's points, functions and texts, and of the objects of main's arguments, are as its
-- actions and declarations ask for them.
use Rattle.std.specs.Prelude.{◌≡◌, ◌<◌, ℕ, List, Some, length}
use Rattle.lk_base.specs.declared.cell.CellStep.{CellStep}
use Rattle.lk_facts.specs.Lowered.{IsArgument, IsString, IsText}
use Rattle.lk_facts.specs.Program.{action_at, function_at, parameter_of, root_at}
use Rattle.lk_facts.specs.Typed.{IsForm, IsFunctionTyped, IsHolderType, IsTyped}
use Rattle.lk_facts.specs.declared.action.Action.{Action}
use Rattle.lk_facts.specs.declared.action.Action.TheVariants.{Fill, Text as OfText}
use Rattle.lk_facts.specs.declared.place.Place.{Place}
use Rattle.lk_facts.specs.declared.program.Program.{Program}
use Rattle.lk_facts.specs.declared.root.Holder.{Holder}
use Rattle.lk_facts.specs.declared.root.Root.{Root}
use Rattle.lk_types.specs.declared.c_type.CType.TheVariants.{Pointer}
use Rattle.lk_point_types.specs.Filled.{LeadsToNode}

pub record HaveTypes (program : Program) : Type 0 where
  -- each operand, slot, parameter and result has the type that its action needs
  pub typed : (p f : ℕ) (action : Action) → action_at program p ≡ Some action →
      function_at program p ≡ Some f → IsTyped program p f action
  -- what a point fills is the place that it names: its operand goes there from the
  -- object of a root (C99 6.7.8)
  pub places : (p a : ℕ) (place : Place) (named : List (List CellStep)) →
      action_at program p ≡ Some (Fill a place named) → LeadsToNode program a place.node
  pub functions : (f : ℕ) → f < length program.functions → IsFunctionTyped program f
  -- a text's bytes are there
  pub texts : (p r : ℕ) → action_at program p ≡ Some (OfText r) → IsText program r
  -- main's arguments, and its second parameter, which points to them (C99 5.1.2.2.1)
  pub arguments : (r : ℕ) (root : Root) → root_at program r ≡ Some root → IsArgument program root.kind root.ty
  pub argv : (holder : Holder) (t : ℕ) → parameter_of program program.main 2 ≡ Some holder →
      IsHolderType program holder t →
      (string : ℕ) × IsForm program.types t (Pointer string) × IsString program string
