-- The tables of a source hold the numbers of the program.
use Rattle.std.proofs.Common.{arith, ap, sym, subst, ◌∙◌, ◌≡◌, ◌<◌, ◌≤◌, ◌+◌, ℕ, zero, suc, Bool, true, false, List, [], ◌∷◌, length, get_or, map, slice_get, Option, None, Some, refl}
use Rattle.std.specs.Option.{is_some, option_and_then, option_map_or}
use Rattle.std.specs.Prelude.{if◌then◌else◌}
use Rattle.std.proofs.lemmas.Bool.{eqb-true, eq-eqb, false≢true, le-ltb, lt-ltb}
use Rattle.std.proofs.lemmas.List.{get_or_past}
use Rattle.std.proofs.lemmas.Option.{get_or_from_slice_get, none-some, same_Some, slice_get_within}
use Rattle.lk_lower_expr.specs.Lowering.{Numbers, function_of, root_of_entity}
use Rattle.lk_lower_expr.specs.declared.names.SourceNames.{SourceNames}
use Rattle.lk_lower_parts.proofs.Beginnings.{definition_is, function_is, root_is}
use Rattle.lk_lower_parts.proofs.Pointers.{kept_pointers}
use Rattle.lk_lower_parts.specs.Givens.{AreGiven, HasTables, function_here, is_defined, object_here}
use Rattle.lk_lower_parts.specs.Sources.{defined_of}
use Rattle.lk_lower_parts.specs.Tables.{ArePointerRows, ArePointersTo, HasMore}
use Rattle.lk_lower_parts.specs.Wanted.{AreDifferent}
use Rattle.lk_lower_parts.specs.declared.names.Given.{Given}
use Rattle.lk_lower_unit.specs.Placed.{AreFound, is_pointer_to, numbers_of, pointer_in}
use Rattle.lk_lower_unit.specs.Tables.{AreTables}
use Rattle.lk_typed.specs.declared.whole.Linked.{Linked}
use Rattle.lk_typed.specs.declared.whole.Whole.{Whole}
use Rattle.lk_types.specs.Table.{Table}
use Rattle.lk_types.specs.declared.c_type.CType.{CType}
use Rattle.lk_types.specs.declared.c_type.CType.TheVariants.{Void, Int, ThreadId, Mutex, Cond, Pointer, Array, Struct, Function, Opaque}

-- ---- pointers

is_pointer : (t : ℕ) → is_pointer_to t (Pointer t) ≡ true
is_pointer t = eq-eqb t t refl

the_pointer : (t : ℕ) (form : CType) → is_pointer_to t form ≡ true → form ≡ Pointer t
the_pointer t Void is = absurd (false≢true is)
the_pointer t (Int k) is = absurd (false≢true is)
the_pointer t ThreadId is = absurd (false≢true is)
the_pointer t Mutex is = absurd (false≢true is)
the_pointer t Cond is = absurd (false≢true is)
the_pointer t (Pointer u) is = ap Pointer (eqb-true u t is)
the_pointer t (Array u n) is = absurd (false≢true is)
the_pointer t (Struct s) is = absurd (false≢true is)
the_pointer t (Function result params dots) is = absurd (false≢true is)
the_pointer t (Opaque n) is = absurd (false≢true is)

at_head : (form : CType) (forms : List CType) (t : ℕ) (b : Bool) → is_pointer_to t form ≡ b → form ≡ Pointer t → slice_get (form ∷ forms) (if b then 0 else suc (pointer_in forms t)) ≡ Some (Pointer t)
at_head form forms t true is so = ap Some so
at_head form forms t false is so = absurd (false≢true (sym is ∙ (ap (is_pointer_to t) so ∙ is_pointer t)))

behind_head : (form : CType) (forms : List CType) (t : ℕ) (b : Bool) → is_pointer_to t form ≡ b → slice_get forms (pointer_in forms t) ≡ Some (Pointer t) → slice_get (form ∷ forms) (if b then 0 else suc (pointer_in forms t)) ≡ Some (Pointer t)
behind_head form forms t true is there = ap Some (the_pointer t form is)
behind_head form forms t false is there = there

pub pointer_there : (forms : List CType) (t u : ℕ) → slice_get forms u ≡ Some (Pointer t) → slice_get forms (pointer_in forms t) ≡ Some (Pointer t)
pointer_there [] t u at = absurd (none-some _ at)
pointer_there (form ∷ forms) t zero at = at_head form forms t (is_pointer_to t form) refl (same_Some form (Pointer t) at)
pointer_there (form ∷ forms) t (suc u) at = behind_head form forms t (is_pointer_to t form) refl (pointer_there forms t u at)

pub pointer_is : (forms : List CType) (t u : ℕ) → AreDifferent forms → slice_get forms u ≡ Some (Pointer t) → u ≡ pointer_in forms t
pointer_is forms t u different at = different u (pointer_in forms t) (Pointer t) at (pointer_there forms t u at)

-- ---- lists

mapped_or : {A B : Type 0} (f : A → B) (xs : List A) (i : ℕ) (d : B) → get_or (map f xs) i d ≡ option_map_or f (slice_get xs i) d
mapped_or f [] i d = refl
mapped_or f (x ∷ xs) zero d = refl
mapped_or f (x ∷ xs) (suc i) d = mapped_or f xs i d

past_end : {A : Type 0} (xs : List A) (i : ℕ) → slice_get xs i ≡ None → length xs ≤ i
past_end [] i at = omega arith
past_end (x ∷ xs) zero at = absurd (none-some x (sym at))
past_end (x ∷ xs) (suc i) at = let h = past_end xs i at in omega arith

-- ---- the tables

module _ (given : Given) (table : Table) (found : AreFound given table) where
  abbrev whole : Whole
  whole = given.whole.now

  abbrev numbers : Numbers
  numbers = numbers_of given table

  pub function_there : (s b : ℕ) → s < length whole.sources → numbers.function s b ≡ get_or given.functions.now.first s 0 + b
  function_there s b within = ap (λ is. if is then get_or given.functions.now.first s 0 + b else 0) (lt-ltb s (length whole.sources) within)

  pub are_given : AreGiven given numbers
  are_given = record {
    root = λ s o. refl;
    slot = λ s o. refl;
    function = function_there;
    no_function = λ s b past. ap (λ is. if is then get_or given.functions.now.first s 0 + b else 0) (le-ltb s (length whole.sources) past);
    functions = found.functions;
  }

  module _ (s : ℕ) (linked : Linked) (source : SourceNames) (at : slice_get whole.sources s ≡ Some linked) (tables : HasTables given s source) where
    same : tables.linked ≡ linked
    same = same_Some tables.linked linked (sym tables.at ∙ at)

    pointer_row : ArePointersTo table linked.types source.pointers
    pointer_row = subst (ArePointersTo table linked.types) (sym tables.pointers) (found.pointers.each s linked at)

    pointer_at : (t : ℕ) (type : Option ℕ) → slice_get linked.types t ≡ type → get_or source.pointers t 0 ≡ option_map_or (pointer_in table.types) type 0
    pointer_at t None is = get_or_past source.pointers t 0 (let h = past_end linked.types t is in omega (arith, h, pointer_row.as_many))
    pointer_at t (Some here) is =
        pointer_is table.types here (get_or source.pointers t 0) found.different
        (pointer_row.each t (slice_get_within linked.types t here is) ∙ ap (λ u. Some (Pointer u)) (get_or_from_slice_get linked.types t here 0 is))

    object_at : (e : ℕ) (here : Option ℕ) → option_map_or (object_here given) here 0 ≡ root_of_entity whole numbers (option_and_then (defined_of whole) here)
    object_at e None = refl
    object_at e (Some here) = sym (root_is given numbers are_given (defined_of whole here))

    function_at : (e : ℕ) (here : Option ℕ) → option_map_or (function_here given) here 0 ≡ function_of whole numbers (option_and_then (defined_of whole) here)
    function_at e None = refl
    function_at e (Some here) = sym (function_is given numbers are_given (defined_of whole here))

    defined_at : (e : ℕ) (here : Option ℕ) → option_map_or (is_defined given) here false ≡ is_some (option_and_then (defined_of whole) here)
    defined_at e None = refl
    defined_at e (Some here) = refl

    pub tables_are : AreTables whole numbers s linked source
    tables_are = record {
      point = λ o k. ap (λ row. get_or row o 0 + k) tables.bases;
      root = λ o. ap (λ row. get_or row o 0) tables.by_node;
      slot = λ o. ap (λ row. get_or row o 0) tables.by_node;
      types = tables.types ∙ ap (λ (l : Linked). l.types) same;
      pointers = λ t. pointer_at t (slice_get linked.types t) refl;
      objects = λ e. ap (λ row. get_or row e 0) (tables.objects ∙ ap (λ (l : Linked). map (object_here given) l.entities) same) ∙ (mapped_or (object_here given) linked.entities e 0 ∙ (object_at e (slice_get linked.entities e) ∙
          ap (root_of_entity whole numbers) (sym (definition_is whole numbers s e linked at))));
      functions = λ e. ap (λ row. get_or row e 0) (tables.functions ∙ ap (λ (l : Linked). map (function_here given) l.entities) same) ∙ (mapped_or (function_here given) linked.entities e 0 ∙ (function_at e (slice_get linked.entities e) ∙
          ap (function_of whole numbers) (sym (definition_is whole numbers s e linked at))));
      defined = λ e. ap (λ row. get_or row e false) (tables.defined ∙ ap (λ (l : Linked). map (is_defined given) l.entities) same) ∙ (mapped_or (is_defined given) linked.entities e false ∙ (defined_at e (slice_get linked.entities e) ∙
          ap is_some (sym (definition_is whole numbers s e linked at))));
    }

-- the pointers to the types of all sources are there in a later table
pub kept_rows : (old new : Table) (sources : List Linked) (rows : List (List ℕ)) → HasMore old new → ArePointerRows old sources rows → ArePointerRows new sources rows
kept_rows old new sources rows more are = record { as_many = are.as_many; each = λ s linked at. kept_pointers old new linked.types (get_or rows s []) more (are.each s linked at) }
