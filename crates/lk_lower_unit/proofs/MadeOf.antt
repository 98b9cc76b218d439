-- The program that is put together is made of the sources.
use mathlib.Core.Path.{fun_ext}
use Rattle.std.proofs.Common.{ap, sym, subst, ◌∙◌, ◌≡◌, ◌<◌, ◌≤◌, ◌+◌, ℕ, Bool, true, false, List, [], length, get_or, map, take, slice_get, Some, refl}
use Rattle.std.proofs.lemmas.Option.{get_or_from_slice_get, same_Some, slice_get_within}
use Rattle.lk_base.specs.declared.cell.CellStep.{CellStep}
use Rattle.lk_facts.specs.Typed.{IsForm}
use Rattle.lk_facts.specs.declared.function.Function.{Function}
use Rattle.lk_facts.specs.declared.program.Program.{Program}
use Rattle.lk_facts.specs.declared.root.Holder.{Holder}
use Rattle.lk_lower_expr.specs.Cells.{cell_node}
use Rattle.lk_lower_expr.specs.Lowering.{ArePoints, Counts, Numbers}
use Rattle.lk_lower_expr.specs.Programs.{AreFunctions, AreRoots, HasFunction, IsBody, IsDefined, IsFunction, IsMadeOf, IsMadeWith, IsTypeHere, holder_by, holder_of}
use Rattle.lk_lower_parts.proofs.Pointers.{kept}
use Rattle.lk_lower_parts.specs.Gathers.{AreNumbered, AreRootsAndSlots, AreSlotsOf, count_arguments}
use Rattle.lk_lower_parts.specs.FunctionNumbers.{number_of}
use Rattle.lk_lower_parts.specs.Givens.{at_node}
use Rattle.lk_lower_parts.specs.MadeFunctions.{IsMade, holder_in, holder_with}
use Rattle.lk_lower_parts.specs.Mains.{IsMainOf}
use Rattle.lk_lower_parts.specs.Tables.{HasMore}
use Rattle.lk_lower_parts.specs.declared.names.Given.{Given}
use Rattle.lk_lower_parts.specs.declared.numbers.Numbered.{Numbered}
use Rattle.lk_lower_parts.specs.declared.start.Main.{Main}
use Rattle.lk_lower_unit.proofs.MadeRoots as made_roots
use Rattle.lk_lower_unit.proofs.SameTypes.{same_node}
use Rattle.lk_lower_unit.proofs.TablesOf.{are_given, function_there, pointer_there}
use Rattle.lk_lower_unit.specs.Made.{IsProgramOf}
use Rattle.lk_lower_unit.specs.Placed.{AreFound, numbers_of, pointer_in}
use Rattle.lk_lower_unit.specs.PointNumbers.{ArePointNumbers, HasStep}
use Rattle.lk_lower_unit.specs.declared.bases.Bases.{Bases}
use Rattle.lk_typed.specs.declared.unit.Body.{Body}
use Rattle.lk_typed.specs.declared.unit.Local.{Local}
use Rattle.lk_typed.specs.declared.whole.Linked.{Linked}
use Rattle.lk_typed.specs.declared.whole.Whole.{Whole}
use Rattle.lk_types.specs.Table.{Table}
use Rattle.lk_types.specs.declared.c_type.CType.{CType}
use Rattle.lk_types.specs.declared.c_type.CType.TheVariants.{Pointer}

-- what counts by one numbering counts by one that is the same there
same_counts : (Has : ℕ → ℕ → ℕ → Type 0) (first count : ℕ) (n m : ℕ → ℕ → ℕ → ℕ) → ((s o k : ℕ) → Has s o k → n s o k ≡ m s o k) → Counts Has first count n → Counts Has first count m
same_counts Has first count n m same counts = record {
  least = λ s o k has. subst (λ x. first ≤ x) (same s o k has) (counts.least s o k has);
  below = λ s o k has. subst (λ x. x < first + count) (same s o k has) (counts.below s o k has);
  rising = λ s o k t p l has too before. subst (λ x. x < m t p l) (same s o k has) (subst (λ x. n s o k < x) (same t p l too) (counts.rising s o k t p l has too before));
  onto = λ x within. let found = counts.onto x within in (found.0, found.1, found.2, found.3, sym (same found.0 found.1 found.2 found.3) ∙ found.4);
}

module _ (given : Given) (types : Table) (bases : Bases) (main : Main) (numbered : Numbered) (program : Program) (found : AreFound given types) (are_points : ArePointNumbers given.whole.now bases) (points_are : given.points.now ≡ bases.bases)
    (is_main : IsMainOf given.whole.now given.functions.now main) (are_numbered : AreNumbered given.whole.now given.functions.now main given.points.now types numbered) (by_node_are : given.by_node.now ≡ numbered.by_node.items)
    (more : HasMore given.whole.now.types types) (made : IsProgramOf given types main bases.count numbered.slots.items numbered.roots.items program) where
  abbrev whole : Whole
  whole = given.whole.now

  abbrev numbers : Numbers
  numbers = numbers_of given types

  parted : program.types ≡ record types { parts = made.is_rest.types_.0 }
  parted = made.types_ ∙ made.is_rest.types_.1

  same_types : program.types.types ≡ types.types
  same_types = ap (λ (table : Table). table.types) parted

  form_there : (t : ℕ) (form : CType) → slice_get types.types t ≡ Some form → IsForm program.types t form
  form_there t form at = subst (λ all. slice_get all t ≡ Some form) (sym same_types) at

  roots_are : program.roots ≡ numbered.roots.items
  roots_are = made.roots_ ∙ made.is_rest.roots_

  counted_functions : given.functions.now.count ≡ length program.functions
  counted_functions = sym (ap length made.functions_ ∙ made.is_code.many_functions)

  function_here : (s b : ℕ) (linked : Linked) → slice_get whole.sources s ≡ Some linked → numbers.function s b ≡ get_or given.functions.now.first s 0 + b
  function_here s b linked at = function_there given types found s b (slice_get_within whole.sources s linked at)

  -- ---- points

  points_made : ArePoints whole numbers program
  points_made = record {
    order = subst (λ n. Counts (HasStep whole numbers program) 0 n numbers.point) (sym (ap length made.points_ ∙ made.is_code.many)) (are_points.order numbers program (λ s o k. ap (λ rows. at_node rows s o + k) points_are));
    each = λ s o k is f stands. made.is_code.points_ program made.points_ counted_functions s o k is f stands;
  }

  -- ---- roots

  rows : AreRootsAndSlots whole numbers program (count_arguments main.has_parameters) numbered.slots.items
  rows = made_roots.rows given types main numbered found is_main are_numbered by_node_are program roots_are same_types made.main_

  roots_made : AreRoots whole numbers program
  roots_made = made_roots.roots_made given types main numbered found is_main are_numbered by_node_are program roots_are same_types made.main_

  -- ---- functions

  holder_is : (slot : Bool) (function s o : ℕ) → holder_with slot function (at_node given.by_node.now s o) ≡ holder_by whole numbers program slot function s o
  holder_is true function s o = refl
  holder_is false function s o = refl

  module _ (s b : ℕ) (linked : Linked) (body : Body) (is_body : IsBody whole.sources s b linked body) (is : Function) (slots : List ℕ) (slots_at : slice_get numbered.slots.items (get_or given.functions.now.first s 0 + b) ≡ Some slots)
      (of : IsMade whole s linked body (get_or given.functions.now.first s 0 + b) (get_or given.points.now s []) (get_or given.by_node.now s []) slots is) where
    number_is : numbers.function s b ≡ get_or given.functions.now.first s 0 + b
    number_is = function_here s b linked is_body.source

    defined_here : IsDefined whole s body.entity linked of.entity of.here of.by
    defined_here = record { source = is_body.source; at = of.at; number = of.own.number; numbered = of.own.numbered; is = of.own.is; there = of.own.there; declared = of.declared }

    parameters_here : is.parameters ≡ map (holder_of whole numbers program (numbers.function s b) s) (take body.parameters body.locals)
    parameters_here = of.parameters ∙ ap (λ n. map (holder_in n (get_or given.by_node.now s [])) (take body.parameters body.locals)) (sym number_is) ∙
        ap (λ (h : Local → Holder). map h (take body.parameters body.locals)) (fun_ext (λ (local : Local). holder_is local.is_slot (numbers.function s b) s local.ordinal))

    row_is : (row : List ℕ) → slice_get numbered.slots.items (numbers.function s b) ≡ Some row → row ≡ is.slots
    row_is row at = same_Some row slots (sym at ∙ (ap (slice_get numbered.slots.items) number_is ∙ slots_at)) ∙ sym of.slots_

    slots_here : AreSlotsOf whole numbers program s b is.slots
    slots_here = let has = rows.slots_ s b linked body is_body in subst (AreSlotsOf whole numbers program s b) (row_is has.0 has.1) has.2

    is_function : IsFunction whole numbers program s b linked body is
    is_function = record {
      entity = of.entity;
      here = of.here;
      by = of.by;
      defined = defined_here;
      name = of.name;
      root_ = of.root_;
      entry = of.entry;
      exit = of.exit;
      parameters = parameters_here;
      result = (of.result.0, of.result.1, form_there of.here.ty _ (kept whole.types types of.here.ty _ more of.result.2));
      order = slots_here.order;
      slots = slots_here.each;
    }

  functions_made : AreFunctions whole numbers program
  functions_made = record {
    order = subst (λ n. Counts (HasFunction whole.sources) 0 n (λ s b k. numbers.function s b)) counted_functions
        (same_counts (HasFunction whole.sources) 0 given.functions.now.count (number_of given.functions.now) (λ s b k. numbers.function s b) (λ s b k has. sym (function_here s b has.1.0 has.1.2.source)) found.functions.order);
    each = λ s b linked body is_body.
        let stands = made.is_code.functions_ s b linked body is_body in (
          stands.0,
          subst (λ n. slice_get program.functions n ≡ Some stands.0) (sym (function_here s b linked is_body.source)) (subst (λ all. slice_get all (get_or given.functions.now.first s 0 + b) ≡ Some stands.0) (sym made.functions_) stands.1),
          is_function s b linked body is_body stands.0 stands.2 stands.3 stands.4,
        );
  }

  -- ---- places, types and pointers

  pointers_made : (s t here : ℕ) → IsTypeHere whole.sources s t here → IsForm program.types (numbers.pointer here) (Pointer here)
  pointers_made s t here is = form_there (pointer_in types.types here) (Pointer here) (pointer_there types.types here _ at)
    where
      at : slice_get types.types (get_or (get_or given.pointers.now s []) t 0) ≡ Some (Pointer here)
      at = (found.pointers.each s is.0 is.1).each t (slice_get_within is.0.types t here is.2) ∙ ap (λ u. Some (Pointer u)) (get_or_from_slice_get is.0.types t here 0 is.2)

  nodes_made : (ty : ℕ) (path : List CellStep) → numbers.node ty path ≡ cell_node program.types ty path
  nodes_made ty path = sym (ap (λ table. cell_node table ty path) parted ∙ same_node types made.is_rest.types_.0 ty path)

  made_with : IsMadeWith whole numbers program
  made_with = record {
    points = points_made;
    roots = roots_made;
    functions = functions_made;
    initials = made.initials_ ∙ made.is_rest.initials_ numbers (are_given given types found);
    places = made.is_rest.places_ whole numbers program made.types_ roots_are made.places_ made.locations_;
    sites = made.is_code.sites_ whole numbers program made.points_ made.functions_;
    types = record {
      more = more.more;
      kept = same_types ∙ more.types;
      members = ap (λ (table : Table). table.members) parted ∙ more.members;
    };
    pointers = pointers_made;
    nodes = nodes_made;
  }

  pub made_of : IsMadeOf whole program
  made_of = (numbers, made_with)
