-- What is right stays right where homes are added, and for whatever is named besides.
use Rattle.std.proofs.Common.{◌≡◌, ℕ, List, ◌++◌, Some}
use Rattle.std.specs.Prelude.{slice_get}
use Rattle.lk_facts.specs.Labels.{LabelTable}
use Rattle.lk_facts.specs.declared.edge.Edge.{Edge}
use Rattle.lk_facts.specs.declared.label_entry.LabelName.{LabelName}
use Rattle.lk_facts.specs.declared.program.Program.{Program}
use Rattle.lk_laws.specs.RowLaws.{HasPointer}
use Rattle.lk_right.specs.Contexts.{Home}
use Rattle.lk_right.specs.Right.{IsPointerRight, IsFunctionRight, IsRight}
use Rattle.lk_sound.proofs.Elements.{left_there}
use Rattle.lk_values.specs.declared.cell.Pointer.{Pointer as PointerTo}
use Rattle.lk_values.specs.declared.value.Value.{Value}
use Rattle.lk_values.specs.declared.value.Value.TheVariants.{Number, Pointer, Function, Null, Thread, Indeterminate}

-- each object that has a home has it later
abbrev pub Keeps : List Home → List Home → Type 0
Keeps homes later = (o : ℕ) (home : Home) → slice_get homes o ≡ Some home → slice_get later o ≡ Some home

pub keeps_itself : (homes : List Home) → Keeps homes homes
keeps_itself homes o home there = there

pub keeps_front : (homes more : List Home) → Keeps homes (homes ++ more)
keeps_front homes more o home there = left_there homes more o home there

module _ (program : Program) (labels : LabelTable) (es : List Edge) (homes later : List Home) (keeps : Keeps homes later) where
  pub pointer_later : (p : PointerTo) (X Y : LabelName → Type 0) (d : List ℕ) → ((x : LabelName) → X x → Y x) → IsPointerRight program labels es homes p X d →
      IsPointerRight program labels es later p Y d
  pointer_later p X Y d names right = record {
    home = right.home;
    lives_in = keeps p.part.object right.home right.lives_in;
    origin = right.origin;
    place = right.place;
    held_by = right.held_by;
    is = names right.held_by right.is;
    aim = right.aim;
    aims = right.aims;
    flows = right.flows;
  }

  function_later : (f : ℕ) (X Y : LabelName → Type 0) (d : List ℕ) → ((x : LabelName) → X x → Y x) → IsFunctionRight program labels es homes f X d → IsFunctionRight program labels es later f Y d
  function_later f X Y d names right = record {
    site = right.site;
    used = right.used;
    origin = right.origin;
    place = right.place;
    held_by = right.held_by;
    is = names right.held_by right.is;
    aim = right.aim;
    aims = right.aims;
    flows = right.flows;
  }

  pub right_later : (v : Value) (X Y : LabelName → Type 0) (d : List ℕ) → ((x : LabelName) → X x → Y x) → (HasPointer program Y → HasPointer program X) → IsRight program labels es homes v X d →
      IsRight program labels es later v Y d
  right_later (Number k n) X Y d names back right = tt
  right_later (Pointer p) X Y d names back right = λ has. pointer_later p X Y d names (right (back has))
  right_later (Function f) X Y d names back right = function_later f X Y d names right
  right_later Null X Y d names back right = tt
  right_later (Thread t) X Y d names back right = tt
  right_later Indeterminate X Y d names back right = tt
