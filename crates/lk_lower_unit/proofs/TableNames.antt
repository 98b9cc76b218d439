-- The tables of a source say what the numbers of the program stand for there.
use mathlib.Core.Path.{fun_ext}
use Rattle.std.proofs.Common.{ap, sym, subst, ◌∙◌, ◌≡◌, ◌+◌, ℕ, zero, suc, List, [], ◌∷◌, length, get_or, map, slice_get, None, Some, refl}
use Rattle.std.specs.Option.{option_map_or}
use Rattle.std.specs.Prelude.{if◌then◌else◌}
use Rattle.std.proofs.lemmas.Option.{same_Some}
use Rattle.lk_base.specs.declared.cell.CellStep.{CellStep}
use Rattle.lk_facts.specs.declared.place.Place.{Place}
use Rattle.lk_facts.specs.declared.program.Program.{Program}
use Rattle.lk_lower_expr.specs.Lowering as lowering
use Rattle.lk_lower_expr.specs.Lowering.{Numbers, StandsIn, names_in, place_in_body}
use Rattle.lk_lower_expr.specs.Names.{Names}
use Rattle.lk_lower_expr.specs.Naming.{local_number, no_local, node_of_local, slot_of_local}
use Rattle.lk_lower_expr.specs.declared.names.LocalNames.{LocalNames}
use Rattle.lk_lower_expr.specs.declared.names.SourceNames.{SourceNames}
use Rattle.lk_lower_expr.specs.declared.step.Step.{Step}
use Rattle.lk_lower_unit.specs.Bodies.{cell_place, named_local, names_by_locals, places_by_locals, with_locals}
use Rattle.lk_lower_unit.specs.Stands.{AreSteps, IsStepOf, of_body, of_static}
use Rattle.lk_lower_unit.specs.Tables.{AreStepsIn, AreTables, StandInPrograms}
use Rattle.lk_lower_unit.specs.declared.standing.StandingStep.{StandingStep}
use Rattle.lk_typed.specs.declared.expression.Storage.{Storage}
use Rattle.lk_typed.specs.declared.expression.Storage.TheVariants as storage
use Rattle.lk_typed.specs.declared.unit.Local.{Local}
use Rattle.lk_typed.specs.declared.unit.TypedUnit.{TypedUnit}
use Rattle.lk_typed.specs.declared.whole.Linked.{Linked}
use Rattle.lk_typed.specs.declared.whole.Whole.{Whole}
use Rattle.lk_types.specs.declared.node.NodeId.{NodeId}

same_names : (n m : Names) → n.at ≡ m.at → n.form ≡ m.form → n.type ≡ m.type → n.pointer ≡ m.pointer → n.object ≡ m.object → n.text ≡ m.text → n.heap ≡ m.heap → n.inside ≡ m.inside → n.declared ≡ m.declared →
    n.slot ≡ m.slot → n.hidden ≡ m.hidden → n.function ≡ m.function → n.is_defined ≡ m.is_defined → n ≡ m
same_names n m at form type pointer object text heap inside declared slot hidden function is_defined = λ i. record {
  at = at i;
  form = form i;
  type = type i;
  pointer = pointer i;
  object = object i;
  text = text i;
  heap = heap i;
  inside = inside i;
  declared = declared i;
  slot = slot i;
  hidden = hidden i;
  function = function i;
  is_defined = is_defined i;
}

module _ (whole : Whole) (numbers : Numbers) (s : ℕ) (linked : Linked) (source : SourceNames) (tables : AreTables whole numbers s linked source) where
  abbrev locals_here : List Local → List LocalNames
  locals_here locals = map (named_local source.by_node) locals

  number_of : (locals : List Local) (l : ℕ) → local_number (locals_here locals) l ≡ option_map_or (λ (local : Local). numbers.root s local.ordinal) (slice_get locals l) 0
  number_of [] l = refl
  number_of (local ∷ locals) zero = tables.root local.ordinal
  number_of (local ∷ locals) (suc l) = number_of locals l

  object_of : (locals : List Local) (is : Storage) → (names_by_locals linked.unit.types source locals).object is ≡ (names_in whole numbers s linked locals).object is
  object_of locals (storage.Entity e) = tables.objects e
  object_of locals (storage.Local l) = number_of locals l

  declared_of : (locals : List Local) (l : ℕ) → node_of_local (get_or (locals_here locals) l no_local) ≡ (names_in whole numbers s linked locals).declared l
  declared_of [] l = refl
  declared_of (local ∷ locals) zero = refl
  declared_of (local ∷ locals) (suc l) = declared_of locals l

  slot_of : (locals : List Local) (l : ℕ) → slot_of_local (get_or (locals_here locals) l no_local) ≡ (names_in whole numbers s linked locals).slot l
  slot_of [] l = refl
  slot_of (local ∷ locals) zero = ap (λ n. if local.is_slot then Some n else None) (tables.slot local.ordinal)
  slot_of (local ∷ locals) (suc l) = slot_of locals l

  abbrev place : ℕ → NodeId → Place
  place r n = record { root = r; node = n }

  place_of : (locals : List Local) (l : ℕ) (path : List CellStep) → cell_place numbers.node (with_locals source locals) l path ≡ place_in_body whole numbers s linked locals l path
  place_of [] l path = refl
  place_of (local ∷ locals) zero path =
      ap (λ r. place r (numbers.node (get_or source.types local.ty 0) path)) (tables.root local.ordinal) ∙ ap (λ ts. place (numbers.root s local.ordinal) (numbers.node (get_or ts local.ty 0) path)) tables.types
  place_of (local ∷ locals) (suc l) path = place_of locals l path

  names_here : (locals : List Local) → names_by_locals linked.unit.types source locals ≡ names_in whole numbers s linked locals
  names_here locals =
      same_names (names_by_locals linked.unit.types source locals) (names_in whole numbers s linked locals) (fun_ext (λ o. fun_ext (λ k. tables.point o k))) refl (ap (λ ts. λ t. get_or ts t 0) tables.types)
      (fun_ext tables.pointers) (fun_ext (object_of locals)) (fun_ext tables.root) (fun_ext tables.root) refl (fun_ext (declared_of locals)) (fun_ext (slot_of locals)) (fun_ext tables.slot) (fun_ext tables.functions) (fun_ext tables.defined)

  abbrev Here : Program → Linked → ℕ → ℕ → Step → ℕ → Type 0
  Here program other o k is f = IsStepOf (names_in whole numbers s other) (place_in_body whole numbers s other) other.unit (numbers.function s) (length program.functions) o k is f

  -- steps that are made by the tables are those of the program
  pub steps_in : (program : Program) (function : ℕ → ℕ) (none : ℕ) (steps : List StandingStep) → slice_get whole.sources s ≡ Some linked → ((b : ℕ) → function b ≡ numbers.function s b) → none ≡ length program.functions →
      AreSteps (names_by_locals linked.unit.types source) (places_by_locals numbers.node source) linked.unit function none steps → AreStepsIn whole numbers program s steps
  steps_in program function none steps at functions no_function are = record {
    each = λ o k is f stands. these.each o k is f (back o k is f stands);
    only = λ x there. forth x.step.node x.step.step x.step.is x.function (these.only x there);
  }
    where
      these : AreSteps (names_in whole numbers s linked) (place_in_body whole numbers s linked) linked.unit (numbers.function s) (length program.functions) steps
      these =
          subst (λ n. AreSteps n (place_in_body whole numbers s linked) linked.unit (numbers.function s) (length program.functions) steps) (fun_ext names_here)
          (subst (λ p. AreSteps (names_by_locals linked.unit.types source) p linked.unit (numbers.function s) (length program.functions) steps) (fun_ext (λ locals. fun_ext (λ l. fun_ext (λ path. place_of locals l path))))
          (subst (λ f. AreSteps (names_by_locals linked.unit.types source) (places_by_locals numbers.node source) linked.unit f (length program.functions) steps) (fun_ext functions)
          (subst (λ n. AreSteps (names_by_locals linked.unit.types source) (places_by_locals numbers.node source) linked.unit function n steps) no_function are)))

      forth : (o k : ℕ) (is : Step) (f : ℕ) → IsStepOf (names_in whole numbers s linked) (place_in_body whole numbers s linked) linked.unit (numbers.function s) (length program.functions) o k is f → StandsIn whole numbers program s o k is f
      forth o k is f (of_body b body at_b is_step) = lowering.of_body linked b body at at_b is_step
      forth o k is f (of_static object entity there at_e is_step) = lowering.of_static linked object entity at there at_e is_step

      back : (o k : ℕ) (is : Step) (f : ℕ) → StandsIn whole numbers program s o k is f → Here program linked o k is f
      back o k is f (lowering.of_body other b body at_s at_b is_step) = subst (λ l. Here program l o k is (numbers.function s b)) (same_Some other linked (sym at_s ∙ at)) (of_body b body at_b is_step)
      back o k is f (lowering.of_static other object entity at_s there at_e is_step) =
          subst (λ l. Here program l o k is (length program.functions)) (same_Some other linked (sym at_s ∙ at)) (of_static object entity there at_e is_step)

pub stand_in : (unit : TypedUnit) (node : ℕ → List CellStep → NodeId) (first none : ℕ) (source : SourceNames) (steps : List StandingStep) →
    AreSteps (names_by_locals unit.types source) (places_by_locals node source) unit (λ b. first + b) none steps → StandInPrograms unit node first none source steps
stand_in unit node first none source steps are whole numbers program s is =
    steps_in whole numbers s is.linked source is.tables program (λ b. first + b) none steps is.at is.functions is.no_function
    (subst (λ n. AreSteps (names_by_locals is.linked.unit.types source) (places_by_locals n source) is.linked.unit (λ b. first + b) none steps) (sym is.nodes)
    (subst (λ (u : TypedUnit). AreSteps (names_by_locals u.types source) (places_by_locals node source) u (λ b. first + b) none steps) (sym is.is) are))
