-- What is right stays so where objects are made: their homes stand behind those that were there.
use Rattle.std.proofs.Common.{◌≡◌, ℕ, List, ◌++◌, Some, ◌∙◌}
use Rattle.std.proofs.lemmas.Option.{slice_get_within}
use Rattle.std.specs.List.{slice_get}
use Rattle.lk_facts.specs.Labels.{LabelTable}
use Rattle.lk_facts.specs.declared.edge.Edge.{Edge}
use Rattle.lk_facts.specs.declared.label_entry.LabelName.{LabelName}
use Rattle.lk_facts.specs.declared.program.Program.{Program}
use Rattle.lk_right.specs.Contexts.{Home}
use Rattle.lk_right.specs.Right.{IsPointerRight, IsFunctionRight, IsRight}
use Rattle.lk_types.proofs.GrowLemmas.{get_before}
use Rattle.lk_values.specs.declared.cell.Pointer.{Pointer as PointerTo}
use Rattle.lk_values.specs.declared.value.Value.{Value}
use Rattle.lk_values.specs.declared.value.Value.TheVariants.{Number, Pointer, Function, Null, Thread, Indeterminate}

module _ (program : Program) (labels : LabelTable) (es : List Edge) (homes more : List Home) (X : LabelName → Type 0) (d : List ℕ) where
  -- an object that was there has the home that it had
  pub home_stays : (o : ℕ) (home : Home) → slice_get homes o ≡ Some home → slice_get (homes ++ more) o ≡ Some home
  home_stays o home is = get_before homes more o (slice_get_within homes o home is) ∙ is

  pub pointer_stays : (p : PointerTo) → IsPointerRight program labels es homes p X d → IsPointerRight program labels es (homes ++ more) p X d
  pointer_stays p right = record {
    home = right.home;
    lives_in = home_stays p.part.object right.home right.lives_in;
    origin = right.origin;
    place = right.place;
    held_by = right.held_by;
    is = right.is;
    aim = right.aim;
    aims = right.aims;
    flows = right.flows;
  }

  function_stays : (f : ℕ) → IsFunctionRight program labels es homes f X d → IsFunctionRight program labels es (homes ++ more) f X d
  function_stays f right = record {
    site = right.site;
    used = right.used;
    origin = right.origin;
    place = right.place;
    held_by = right.held_by;
    is = right.is;
    aim = right.aim;
    aims = right.aims;
    flows = right.flows;
  }

  -- a value that was right is right
  pub right_stays : (v : Value) → IsRight program labels es homes v X d → IsRight program labels es (homes ++ more) v X d
  right_stays (Number k n) right = tt
  right_stays (Pointer p) right = λ has. pointer_stays p (right has)
  right_stays (Function f) right = function_stays f right
  right_stays Null right = tt
  right_stays (Thread t) right = tt
  right_stays Indeterminate right = tt
