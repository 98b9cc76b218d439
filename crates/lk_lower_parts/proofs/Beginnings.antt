-- What objects of static storage begin with, by the tables that hold a program's numbers.
use Rattle.std.proofs.Common.{arith, ap, sym, subst, ◌∙◌, ◌≡◌, ◌<◌, ◌≤◌, ◌+◌, ◌++◌, ℕ, zero, suc, List, [], ◌∷◌, length, get_or, drop, slice_get, Option, None, Some, refl, add-one, drop-cons, append_assoc, append-nil}
use Rattle.std.specs.Prelude.{map}
use Rattle.std.specs.Option.{option_and_then, option_map_or}
use Rattle.std.proofs.lemmas.List.{drop_all, get_or_past}
use Rattle.std.proofs.lemmas.Option.{get_or_from_slice_get, none-some}
use Rattle.lk_facts.specs.declared.initial.Initial.{Initial}
use Rattle.lk_facts.specs.declared.initial.InitialValue.TheVariants as begins
use Rattle.lk_lower_expr.specs.Lowering.{Numbers, definition_of, function_of, is_body_of, place_in, root_of_entity}
use Rattle.lk_lower_expr.specs.Programs.{initial_here, initials_from, initials_of_objects, value_here}
use Rattle.lk_lower_parts.proofs.FunctionCounts.{inside}
use Rattle.lk_lower_parts.specs.FunctionNumbers.{firsts}
use Rattle.lk_lower_parts.specs.Givens.{AddsSource, AreGiven, AreInitials, at_node, function_by, function_in, initial_by, object_by, objects_by, root_by, source_by, sources_by, value_by}
use Rattle.lk_lower_parts.specs.Sources.{defined_by}
use Rattle.lk_lower_parts.specs.declared.names.Given.{Given}
use Rattle.lk_typed.specs.declared.entity.Declaration.{Declaration}
use Rattle.lk_typed.specs.declared.initialiser.StaticObject.{StaticObject}
use Rattle.lk_typed.specs.declared.initialiser.StaticPart.{StaticPart}
use Rattle.lk_typed.specs.declared.initialiser.StaticValue.{StaticValue}
use Rattle.lk_typed.specs.declared.initialiser.StaticValue.TheVariants as value
use Rattle.lk_typed.specs.declared.whole.Linked.{Linked}
use Rattle.lk_typed.specs.declared.whole.Whole.{Whole}
use Rattle.lk_typed.specs.declared.whole.WholeEntity.{WholeEntity}

past_end : {A : Type 0} (xs : List A) (i : ℕ) → slice_get xs i ≡ None → length xs ≤ i
past_end [] i at = omega arith
past_end (x ∷ xs) zero at = absurd (none-some x (sym at))
past_end (x ∷ xs) (suc i) at = let h = past_end xs i at in omega arith

length_firsts : (n : ℕ) (sources : List Linked) → length (firsts n sources) ≡ length sources + 1
length_firsts n [] = refl
length_firsts n (one ∷ sources) = let h = length_firsts (n + length one.unit.bodies) sources in omega arith

module _ (whole : Whole) (numbers : Numbers) where
  entity_is : (numbers_of : Option ℕ) →
      option_and_then (λ (here : WholeEntity). here.defined) (option_and_then (slice_get whole.entities) numbers_of) ≡ option_and_then (λ here. option_and_then (λ (here : WholeEntity). here.defined) (slice_get whole.entities here)) numbers_of
  entity_is None = refl
  entity_is (Some here) = refl

  pub definition_is : (s e : ℕ) (linked : Linked) → slice_get whole.sources s ≡ Some linked → definition_of whole numbers s e ≡ defined_by whole linked e
  definition_is s e linked at = ap (λ found. option_and_then (λ (here : WholeEntity). here.defined) (option_and_then (λ (l : Linked). option_and_then (slice_get whole.entities) (slice_get l.entities e)) found)) at ∙ entity_is (slice_get linked.entities e)

module _ (given : Given) (numbers : Numbers) (is : AreGiven given numbers) where
  abbrev whole : Whole
  whole = given.whole.now

  root_there : (s : ℕ) (found : Option Declaration) →
      option_map_or (λ (d : Declaration). numbers.root s d.ordinal) found 0 ≡ option_map_or (λ (d : Declaration). at_node given.by_node.now s d.ordinal) found 0
  root_there s None = refl
  root_there s (Some d) = is.root s d.ordinal

  pub root_is : (definition : Option (ℕ × ℕ)) → root_of_entity whole numbers definition ≡ root_by given definition
  root_is None = refl
  root_is (Some (s, e)) = root_there s _

  function_there : (s e : ℕ) (found : Option Linked) → slice_get whole.sources s ≡ found →
      numbers.function s (option_map_or (λ (linked : Linked). place_in (is_body_of e) linked.unit.bodies) found 0) ≡ function_in given s e
  function_there s e (Some linked) at =
      is.function s _ (inside whole.sources s linked at) ∙ sym (is.functions.of_entities s linked at e)
  function_there s e None at = is.no_function s 0 (past_end whole.sources s at) ∙ sym none
    where
      past : length whole.sources ≤ s
      past = past_end whole.sources s at

      no_row : get_or given.functions.now.of_entities s [] ≡ []
      no_row = get_or_past given.functions.now.of_entities s [] (omega (arith, past, is.functions.sources_))

      no_first : get_or given.functions.now.first (suc s) 0 ≡ 0
      no_first = get_or_past given.functions.now.first (suc s) 0 (omega (arith, past, ap length is.functions.first, length_firsts 0 whole.sources))

      none : function_in given s e ≡ 0
      none = ap (λ row. get_or row e (get_or given.functions.now.first (suc s) 0)) no_row ∙ no_first

  pub function_is : (definition : Option (ℕ × ℕ)) → function_of whole numbers definition ≡ function_by given definition
  function_is None = refl
  function_is (Some (s, e)) = function_there s e (slice_get whole.sources s) refl

  module _ (s : ℕ) (linked : Linked) (at : slice_get whole.sources s ≡ Some linked) where
    abbrev row : List ℕ
    row = get_or given.by_node.now s []

    value_is : (v : StaticValue) → value_here whole numbers s v ≡ value_by given linked row v
    value_is (value.Number n) = refl
    value_is value.Null = refl
    value_is (value.Function e) = ap begins.Function (ap (function_of whole numbers) (definition_is whole numbers s e linked at) ∙ function_is (defined_by whole linked e))
    value_is (value.Address e path past) = ap (λ r. begins.Address r path past) (ap (root_of_entity whole numbers) (definition_is whole numbers s e linked at) ∙ root_is (defined_by whole linked e))
    value_is (value.Text node path past) = ap (λ r. begins.Address r path past) (is.root s node)
    value_is value.Ready = refl

    root_of_object : (object : StaticObject) → root_of_entity whole numbers (definition_of whole numbers s object.entity) ≡ root_by given (defined_by whole linked object.entity)
    root_of_object object = ap (root_of_entity whole numbers) (definition_is whole numbers s object.entity linked at) ∙ root_is (defined_by whole linked object.entity)

    initial_is : (object : StaticObject) (part : StaticPart) → initial_here whole numbers s object part ≡ initial_by given linked row (root_by given (defined_by whole linked object.entity)) part
    initial_is object part =
        ap (λ r. let is : Initial = record { root = r; path = part.path; value = value_here whole numbers s part.value } in is) (root_of_object object) ∙
        ap (λ v. let is : Initial = record { root = root_by given (defined_by whole linked object.entity); path = part.path; value = v } in is) (value_is part.value)

    parts_are : (object : StaticObject) (parts : List StaticPart) →
        map (initial_here whole numbers s object) parts ≡ map (initial_by given linked row (root_by given (defined_by whole linked object.entity))) parts
    parts_are object [] = refl
    parts_are object (part ∷ parts) =
        ap (λ one. one ∷ map (initial_here whole numbers s object) parts) (initial_is object part) ∙
        ap (λ all. initial_by given linked row (root_by given (defined_by whole linked object.entity)) part ∷ all) (parts_are object parts)

    pub objects_are : (objects : List StaticObject) → initials_of_objects whole numbers s objects ≡ objects_by given linked row objects
    objects_are [] = refl
    objects_are (object ∷ objects) =
        ap (λ some. some ++ initials_of_objects whole numbers s objects) (parts_are object object.parts) ∙
        ap (λ all. object_by given linked row object ++ all) (objects_are objects)

  sources_are : (s : ℕ) (rest : List Linked) → ((i : ℕ) (linked : Linked) → slice_get rest i ≡ Some linked → slice_get whole.sources (s + i) ≡ Some linked) →
      initials_from whole numbers s rest ≡ sources_by given s rest
  sources_are s [] there = refl
  sources_are s (linked ∷ rest) there =
      ap (λ some. some ++ initials_from whole numbers (suc s) rest) (objects_are s linked (subst (λ n. slice_get whole.sources n ≡ Some linked) here (there 0 linked refl)) linked.unit.objects) ∙
      ap (λ all. source_by given s linked ++ all) (sources_are (suc s) rest (λ i other at. subst (λ n. slice_get whole.sources n ≡ Some other) (behind i) (there (suc i) other at)))
    where
      here : s + 0 ≡ s
      here = omega arith

      behind : (i : ℕ) → s + suc i ≡ suc s + i
      behind i = omega arith

  pub all_are : initials_from whole numbers 0 whole.sources ≡ sources_by given 0 whole.sources
  all_are = sources_are 0 whole.sources (λ i linked at. subst (λ n. slice_get whole.sources n ≡ Some linked) (from_zero i) at)
    where
      from_zero : (i : ℕ) → i ≡ 0 + i
      from_zero i = omega arith

-- one source more
pub source_more : (given : Given) (s : ℕ) (old new : List Initial) → s < length given.whole.now.sources → sources_by given 0 given.whole.now.sources ≡ old ++ sources_by given s (drop s given.whole.now.sources) → AddsSource given s old new →
    sources_by given 0 given.whole.now.sources ≡ new ++ sources_by given (s + 1) (drop (s + 1) given.whole.now.sources)
source_more given s old new within was adds =
    was ∙ ap (λ xs. old ++ sources_by given s xs) turn ∙
    (sym (append_assoc old (source_by given s adds.0) (sources_by given (suc s) (drop (suc s) given.whole.now.sources))) ∙ ap (λ xs. xs ++ sources_by given (suc s) (drop (suc s) given.whole.now.sources)) (sym adds.2)) ∙
    ap (λ n. new ++ sources_by given n (drop n given.whole.now.sources)) (sym (add-one s))
  where
    turn : drop s given.whole.now.sources ≡ adds.0 ∷ drop (suc s) given.whole.now.sources
    turn = drop-cons given.whole.now.sources s adds.0 within ∙ ap (λ y. y ∷ drop (suc s) given.whole.now.sources) (get_or_from_slice_get given.whole.now.sources s adds.0 adds.0 adds.1)

-- those of all sources
pub all_begun : (given : Given) (s : ℕ) (out : List Initial) → length given.whole.now.sources ≤ s → sources_by given 0 given.whole.now.sources ≡ out ++ sources_by given s (drop s given.whole.now.sources) → AreInitials given out
all_begun given s out past so_far numbers is =
    sym (all_are given numbers is ∙ so_far ∙ ap (λ xs. out ++ sources_by given s xs) (drop_all s given.whole.now.sources past) ∙ append-nil out)
