-- The roots of a program with the roots and types that were found are those of the sources, whatever else it has.
use Rattle.std.proofs.Common.{arith, ap, sym, subst, ◌∙◌, ◌≡◌, ◌<◌, ◌+◌, ◌-◌, ◌++◌, ℕ, zero, suc, Bool, true, false, [], length, get_or, slice_get, Option, None, Some, refl, append-nil}
use Rattle.std.specs.Prelude.{nat_lt}
use Rattle.std.proofs.lemmas.Bool.{false≢true, lt-ltb}
use Rattle.std.proofs.lemmas.Option.{slice_get_within}
use Rattle.lk_base.specs.declared.spot.Spot.{Spot}
use Rattle.lk_facts.specs.Typed.{IsForm}
use Rattle.lk_facts.specs.declared.program.Program.{Program}
use Rattle.lk_lower_expr.specs.Lowering.{Counts, Numbers}
use Rattle.lk_lower_expr.specs.Programs.{AreRoots, HasMorePlaces, HasRoot, HaveArguments, arguments}
use Rattle.lk_lower_parts.specs.Gathers.{AreNumbered, AreNumbersOf, AreRootsAndSlots, AreTheirTypes, argument_roots, count_arguments}
use Rattle.lk_lower_parts.specs.Givens.{at_node}
use Rattle.lk_lower_parts.specs.Mains.{IsMainOf}
use Rattle.lk_lower_parts.specs.Tables.{HasMore}
use Rattle.lk_lower_parts.specs.Wanted.{AreDifferent}
use Rattle.lk_lower_parts.specs.declared.names.Given.{Given}
use Rattle.lk_lower_parts.specs.declared.numbers.Numbered.{Numbered}
use Rattle.lk_lower_parts.specs.declared.start.Main.{Main}
use Rattle.lk_lower_unit.proofs.TablesOf.{function_there}
use Rattle.lk_lower_unit.specs.Made.{HasMorePartedPlaces}
use Rattle.lk_lower_unit.specs.Placed.{AreFound, numbers_of}
use Rattle.lk_typed.specs.declared.whole.Whole.{Whole}
use Rattle.lk_types.specs.Table.{Table}
use Rattle.lk_types.specs.declared.c_type.CType.{CType}

module _ (given : Given) (types : Table) (main : Main) (numbered : Numbered) (found : AreFound given types) (is_main : IsMainOf given.whole.now given.functions.now main)
    (are_numbered : AreNumbered given.whole.now given.functions.now main given.points.now types numbered) (by_node_are : given.by_node.now ≡ numbered.by_node.items) where
  module _ (program : Program) (roots_are : program.roots ≡ numbered.roots.items) (same_types : program.types.types ≡ types.types) (main_is : program.main ≡ main.function) where
    abbrev whole : Whole
    whole = given.whole.now

    abbrev numbers : Numbers
    numbers = numbers_of given types

    form_there : (t : ℕ) (form : CType) → slice_get types.types t ≡ Some form → IsForm program.types t form
    form_there t form at = subst (λ all. slice_get all t ≡ Some form) (sym same_types) at

    plus_none : (n : ℕ) → n + 0 ≡ n
    plus_none n = omega arith

    numbers_are : AreNumbersOf whole given.functions.now given.points.now types numbered numbers program
    numbers_are = record {
      root = λ s o. ap (λ rows. at_node rows s o) by_node_are;
      slot = λ s o. ap (λ rows. at_node rows s o) by_node_are;
      function = function_there given types found;
      point = λ s o. plus_none (at_node given.points.now s o);
      roots = roots_are;
      types = record {
        more = [];
        types = same_types ∙ sym (append-nil types.types);
        different = subst AreDifferent (sym same_types) found.different;
      };
    }

    pub rows : AreRootsAndSlots whole numbers program (count_arguments main.has_parameters) numbered.slots.items
    rows = are_numbered.are numbers program numbers_are

    has_arguments : (parameters : ℕ) (has : Bool) → has ≡ nat_lt 0 parameters → count_arguments has ≡ arguments whole numbers program parameters
    has_arguments zero true is = absurd (false≢true (sym is))
    has_arguments zero false is = refl
    has_arguments (suc parameters) true is = refl
    has_arguments (suc parameters) false is = absurd (false≢true (is ∙ lt-ltb 0 (suc parameters) (omega arith)))

    arguments_made : (parameters : ℕ) (has : Bool) (spot : Spot) (found_types : Option _) → has ≡ nat_lt 0 parameters → AreTheirTypes has types found_types → program.roots ≡ argument_roots spot found_types ++ are_numbered.more →
        HaveArguments whole numbers program parameters spot
    arguments_made zero has spot found_types is are front = tt
    arguments_made (suc parameters) false spot found_types is are front = absurd (false≢true (is ∙ lt-ltb 0 (suc parameters) (omega arith)))
    arguments_made (suc parameters) true spot None is are front = absurd are
    arguments_made (suc parameters) true spot (Some at) is are front = record {
      string = are.string;
      strings = at.strings;
      chars = at.chars;
      string_form = form_there are.string _ are.string_form;
      strings_form = form_there at.strings _ are.strings_form;
      chars_form = form_there at.chars _ are.chars_form;
      argv = ap (λ roots. slice_get roots 0) front;
      args = ap (λ roots. slice_get roots 1) front;
    }

    abbrev plain_numbers : Numbers
    plain_numbers = record numbers { function = λ s b. get_or given.functions.now.first s 0 + b }

    main_inside : is_main.s < length whole.sources
    main_inside = let is = is_main.is plain_numbers program refl main_is in slice_get_within whole.sources is_main.s is.linked is.of.source

    pub roots_made : AreRoots whole numbers program
    roots_made = record {
      s = is_main.s;
      b = is_main.b;
      body = is_main.body;
      by = is_main.by;
      main = is_main.is numbers program (function_there given types found is_main.s is_main.b main_inside) main_is;
      arguments_ = subst (HaveArguments whole numbers program is_main.body.parameters) is_main.spot_
          (arguments_made is_main.body.parameters main.has_parameters main.spot are_numbered.types is_main.parameters are_numbered.are_types (roots_are ∙ are_numbered.arguments));
      order = subst (λ n. Counts (HasRoot whole numbers program) n (length program.roots - n) (λ s o k. numbers.root s o)) (has_arguments is_main.body.parameters main.has_parameters is_main.parameters) rows.order;
      each = rows.each;
    }

  -- a program with these roots and types, and nothing else
  abbrev bare : (table : Table) → Program
  bare table = record { points = []; functions = []; roots = numbered.roots.items; types = table; places = []; locations = 0; initials = []; main = main.function; sites = 0 }

  pub more_places : HasMore given.whole.now.types types → HasMorePartedPlaces types numbered.roots.items → HasMorePlaces given.whole.now 65536
  more_places more many =
      let same : many.table.types ≡ types.types = ap (λ (table : Table). table.types) many.parted.1 in
      record {
        numbers = numbers_of given types;
        program = bare many.table;
        roots = roots_made (bare many.table) refl same refl;
        types = record {
          more = more.more;
          kept = same ∙ more.types;
          members = ap (λ (table : Table). table.members) many.parted.1 ∙ more.members;
        };
        places = many.more.places;
        each = many.more.each (bare many.table) refl refl;
        different = many.more.different;
        many = many.more.many;
      }
