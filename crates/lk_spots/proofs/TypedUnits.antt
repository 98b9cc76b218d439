-- A typed source stands at places of the source that it is made of.
use Rattle.std.proofs.Common.{◌≡◌, true, ◌∙◌, inl, inr, ℕ, ◌≤◌, zero, suc, Bool, List, [], ◌∷◌, Option, Some, None, take, refl, sym, ap, subst, arith}
use Rattle.std.proofs.lemmas.Option.{none-some, same_Some}
use Rattle.std.specs.List.{slice_get}
use Rattle.lk_base.specs.declared.cell.CellStep.{CellStep}
use Rattle.lk_base.specs.declared.kind.Kind.{Kind}
use Rattle.lk_base.specs.declared.spot.Spot.{Spot}
use Rattle.lk_tree.specs.declared.declaration.InitDeclarator.{InitDeclarator}
use Rattle.lk_tree.specs.declared.expression.Declarator.{Declarator}
use Rattle.lk_tree.specs.declared.expression.DeclaratorForm.TheOpen.{DeclaratorForm-F}
use Rattle.lk_tree.specs.declared.expression.DeclaratorForm.{out-DeclaratorForm}
use Rattle.lk_tree.specs.declared.expression.Expr.{Expr}
use Rattle.lk_tree.specs.declared.expression.Parameter.{Parameter}
use Rattle.lk_tree.specs.declared.specifiers.Qualifier.{Qualifier}
use Rattle.lk_tree.specs.declared.statement.Function.{Function as Definition}
use Rattle.lk_tree.specs.declared.statement.Unit.{Unit}
use Rattle.lk_types.specs.declared.c_type.CType.{CType}
use Rattle.lk_typed.specs.DeclarationRules.{Scope}
use Rattle.lk_typed.specs.Elaborated.{InPlace}
use Rattle.lk_typed.specs.Entities as entities
use Rattle.lk_typed.specs.Entities.{NameDeclared, DeclaresName, StandsAmong, IsFirstUse, AreEntities, specifiers_of}
use Rattle.lk_typed.specs.Env.{Env, Name}
use Rattle.lk_typed.specs.Expressions.{declarator_found}
use Rattle.lk_typed.specs.Initialised.{PartGiven}
use Rattle.lk_typed.specs.Locals as locals
use Rattle.lk_typed.specs.Locals.{HasParameters, StandsAtName, EachParameter, AreParameters, AreLocals, parameter_name}
use Rattle.lk_typed.specs.Nodes.{Node, Placed}
use Rattle.lk_typed.specs.StaticInits as statics
use Rattle.lk_typed.specs.StaticInits.{IsStaticValue, AreByteParts, AreStaticParts}
use Rattle.lk_typed.specs.Tables.{Tables}
use Rattle.lk_typed.specs.Telling.{in_declarator}
use Rattle.lk_typed.specs.Told.{Named, SpecifierTold}
use Rattle.lk_typed.specs.Ty.{Ty}
use Rattle.lk_typed.specs.TypedUnits as units
use Rattle.lk_typed.specs.TypedUnits.{IsBody, AreBodies, IsStaticObject, IsTypedUnit}
use Rattle.lk_typed.specs.Units.{around, at_end}
use Rattle.lk_typed.specs.declared.entity.Declaration.{Declaration}
use Rattle.lk_typed.specs.declared.entity.Entity.{Entity}
use Rattle.lk_typed.specs.declared.entity.Use.{Use}
use Rattle.lk_typed.specs.declared.expression.TypedExpr.{TypedExpr}
use Rattle.lk_typed.specs.declared.initialiser.StaticObject.{StaticObject}
use Rattle.lk_typed.specs.declared.initialiser.StaticPart.{StaticPart}
use Rattle.lk_typed.specs.declared.initialiser.StaticValue.{StaticValue}
use Rattle.lk_typed.specs.declared.unit.Body.{Body}
use Rattle.lk_typed.specs.declared.unit.Local.{Local}
use Rattle.lk_typed.specs.declared.unit.TypedUnit.{TypedUnit}
use Rattle.lk_rules.specs.LayerLaws.{declarator_parts_told}
use Rattle.lk_rules.proofs.Layered.{declarators_follow_their_forms}
use Rattle.lk_spots.specs.NodePlaces.{NodeSpots}
use Rattle.lk_spots.specs.Places as s
use Rattle.lk_spots.specs.Places.{Each, IfThere, DeclaratorLayer, DeclaratorSpots, DeclaratorFormSpots, ParameterSpots}
use Rattle.lk_spots.specs.StatementPlaces as p
use Rattle.lk_spots.specs.StatementPlaces.{InitDeclaratorSpots, FunctionSpots, UnitSpots}
use Rattle.lk_spots.specs.TypedPlaces as t
use Rattle.lk_spots.specs.TypedPlaces.{TypedExprSpots, EntitySpots, ObjectSpots, BodySpots, TypedUnitSpots}
use Rattle.lk_spots.proofs.Lists.{each_none, each_more, each_both, at_each, if_missing, if_there}
use Rattle.lk_spots.proofs.Parts.{PartsSpots, block_item_list, in_body_form, in_initialiser, stmt_form}
use Rattle.lk_spots.proofs.Standing.{in_turn, node_spots, standing, stmt_place}
use Rattle.lk_spots.proofs.TypedExpressions.{PlaceSpots, place_of, converted}
use Rattle.lk_spots.proofs.TypedStatements.{GivenSpots, of_value, given_spots, stmt_made, items}

-- ---- lists by their numbers

module _ {A : Type 0} (Q : A → Type 0) where
  each_at : (xs : List A) → ((l : ℕ) (a : A) → slice_get xs l ≡ Some a → Q a) → Each Q xs
  each_at [] all = each_none Q
  each_at (x ∷ xs) all = each_more Q x xs (all 0 x refl) (each_at xs (λ l a is. all (suc l) a is))

  -- those before a number, and those from it on
  each_from : (xs : List A) (count : ℕ) → Each Q (take count xs) → ((l : ℕ) (a : A) → count ≤ l → slice_get xs l ≡ Some a → Q a) → Each Q xs
  each_from [] count front others = each_none Q
  each_from (x ∷ xs) zero front others = each_at (x ∷ xs) (λ l a is. others l a (omega arith) is)
  each_from (x ∷ xs) (suc n) front others = each_more Q x xs (front x (inl refl)) (each_from xs n (λ a is. front a (inr is)) (λ l a le is. others (suc l) a (omega (arith, le)) is))

module _ (P : Spot → Type 0) where
  -- ---- the place of a declared name

  mutual
    pub named_place : {d : Declarator} {named : Named} → DeclaratorSpots P d → (declarator_found d).name ≡ Some named → P named.spot
    named_place {d} (s.declarator here form) is = named_in form d.ordinal here (sym (ap (λ layer. layer.told.name) (declarators_follow_their_forms d)) ∙ is)

    named_in : {x : DeclaratorLayer} {spot : Spot} {named : Named} → DeclaratorFormSpots P x → (n : ℕ) → P spot → (in_declarator (declarator_parts_told x) spot n).told.name ≡ Some named → P named.spot
    named_in {named = named} (s.star {inner = None} inner) n here is = absurd (none-some named is)
    named_in (s.star {inner = Some d} inner) n here is = named_place (inner d refl) is
    named_in {named = named} s.named n here is = subst P (ap (λ (named : Named). named.spot) (same_Some _ named is)) here
    named_in (s.group inner) n here is = named_place inner is
    named_in {named = named} (s.array {inner = None} inner size) n here is = absurd (none-some named is)
    named_in (s.array {inner = Some d} inner size) n here is = named_place (inner d refl) is
    named_in {named = named} (s.function {inner = None} inner parameters) n here is = absurd (none-some named is)
    named_in (s.function {inner = Some d} inner parameters) n here is = named_place (inner d refl) is

  -- ---- parameters

  of_function : {inner : Declarator} {ps : List Parameter} {dots : Bool} → DeclaratorFormSpots P (DeclaratorForm-F.FunctionOf (Some inner) ps dots) → DeclaratorSpots P inner × Each (ParameterSpots P) ps
  of_function {inner} (s.function inside parameters) = (inside inner refl, parameters)

  form_of : {d : Declarator} {x : DeclaratorLayer} → out-DeclaratorForm d.form ≡ x → DeclaratorSpots P d → DeclaratorFormSpots P x
  form_of is (s.declarator here form) = subst (DeclaratorFormSpots P) is form

  of_star : {qualifiers : List Qualifier} {inner : Declarator} → DeclaratorFormSpots P (DeclaratorForm-F.Star qualifiers (Some inner)) → DeclaratorSpots P inner
  of_star {inner = inner} (s.star inside) = inside inner refl

  of_group : {inner : Declarator} → DeclaratorFormSpots P (DeclaratorForm-F.Group inner) → DeclaratorSpots P inner
  of_group (s.group inside) = inside

  of_array : {inner : Declarator} {size : Option Expr} → DeclaratorFormSpots P (DeclaratorForm-F.ArrayOf (Some inner) size) → DeclaratorSpots P inner
  of_array {inner} (s.array inside size) = inside inner refl

  parameters_of : {d : Declarator} {ps : List Parameter} {dots : Bool} → HasParameters d ps dots → DeclaratorSpots P d → Each (ParameterSpots P) ps
  parameters_of (locals.beside is name) spots = (of_function (form_of is spots)).1
  parameters_of (locals.in_function is no_name inner) spots = parameters_of inner (of_function (form_of is spots)).0
  parameters_of (locals.in_pointer is inner) spots = parameters_of inner (of_star (form_of is spots))
  parameters_of (locals.in_group is inner) spots = parameters_of inner (of_group (form_of is spots))
  parameters_of (locals.in_array is inner) spots = parameters_of inner (of_array (form_of is spots))

  abbrev named_part : Option Declarator → Option Named
  named_part None = None
  named_part (Some d) = (declarator_found d).name

  part_place : (d : Option Declarator) {named : Named} → IfThere (DeclaratorSpots P) d → named_part d ≡ Some named → P named.spot
  part_place None {named} spots is = absurd (none-some named is)
  part_place (Some d) spots is = named_place (spots d refl) is

  -- ---- declared names of the source

  among_spots : {scope : Scope} {told : SpecifierTold} {env env' : Env} {ds : List InitDeclarator} {d : InitDeclarator} → StandsAmong scope told env ds env' d
      → Each (InitDeclaratorSpots P) ds → InitDeclaratorSpots P d
  among_spots (entities.first {d = d}) each = each d (inl refl)
  among_spots (entities.later others) each = among_spots others (λ a is. each a (inr is))

  declared_place : {env : Env} {node : Node} {n : NameDeclared} → DeclaresName env node n → NodeSpots P node → P n.spot
  declared_place (entities.in_declaration among named found type) spots = named_place (among_spots among spots.declarators).declarator named
  declared_place (entities.by_definition named found type) spots = named_place spots.declarator named

  module _ (externs : List Name) (unit : Unit) where
    abbrev LocalPlace : Local → Type 0
    LocalPlace local = P local.spot

    stands_at : {p : Parameter} {local : Local} {name : Option Named} → StandsAtName externs unit p local name → parameter_name p ≡ name → ParameterSpots P p → P local.spot
    stands_at (locals.named name spot number) is (s.parameter here specifiers inner) = subst P (sym spot) (part_place _ inner is)
    stands_at (locals.unnamed name spot number) is (s.parameter here specifiers inner) = subst P (sym spot) here

    each_parameter : {types : List CType} {env : Env} {ps : List Parameter} {are : List Local} → EachParameter externs unit types env ps are → Each (ParameterSpots P) ps → Each LocalPlace are
    each_parameter locals.no_more each = each_none LocalPlace
    each_parameter (locals.next {p = p} type is stands others) each =
        each_more LocalPlace _ _ (stands_at stands refl (each p (inl refl))) (each_parameter others (λ a is. each a (inr is)))

    are_parameters : {types : List CType} {env : Env} {ps : List Parameter} {are : List Local} → AreParameters externs unit types env ps are → Each (ParameterSpots P) ps → Each LocalPlace are
    are_parameters (locals.void_alone void) each = each_none LocalPlace
    are_parameters (locals.lone no_void all) each = each_parameter all each
    are_parameters locals.none each = each_none LocalPlace
    are_parameters (locals.several all) each = each_parameter all each

    local_places : {types : List CType} {env : Env} {definition : Definition} {count : ℕ} {are : List Local} → AreLocals externs unit types env definition count are → FunctionSpots P definition
        → Each LocalPlace are
    local_places {count = count} {are = list} are spots =
        each_from LocalPlace list count (are_parameters are.are_parameters (parameters_of are.listed spots.declarator))
        (λ l a le is.
        let other = are.none_else l a le is in
        let name = other.2 in
        subst P (sym other.3.spot) (declared_place name.declares (standing P (at_end externs unit) name.stands spots)))

    -- ---- entities

    use_place : {entity : Entity} {use_ : Option Use} → IsFirstUse externs unit entity use_ → UnitSpots P unit → IfThere (λ (use_ : Use). P use_.spot) use_
    use_place (entities.unused none) spots = if_missing (λ (use_ : Use). P use_.spot)
    use_place (entities.used of none) spots = if_there (λ (use_ : Use). P use_.spot) _ (subst P (sym of.spot) (place_of P (node_spots P externs unit spots of.stands)))

    entity_spots : {types : List CType} {bodies : List Body} {list : List Entity} → AreEntities externs unit types bodies list → UnitSpots P unit → Each (EntitySpots P) list
    entity_spots {list = list} are spots =
        each_at (EntitySpots P) list
        (λ e entity at.
        record {
          declarations = each_at (λ (declared : Declaration). P declared.spot) entity.declarations
              (λ k is has.
              let of = are.none_else e k is (record { entity = entity; at = at; has = has }) in
              subst P (sym of.4.spot) (declared_place of.3.declares (node_spots P externs unit spots of.3.stands)));
          first_use = use_place (are.first e entity at).5.use_ spots;
        })

    -- ---- objects of static storage

    static_value : {tables : Tables} {p : InPlace} {t : Ty} {is : StaticValue} {e : Option TypedExpr} → IsStaticValue tables p t is e → PlaceSpots P p → IfThere (TypedExprSpots P) e
    static_value (statics.number at known) spots = if_missing (TypedExprSpots P)
    static_value (statics.truth at truth unknown) spots = if_missing (TypedExprSpots P)
    static_value {tables} (statics.pointer at points a) spots = if_there (TypedExprSpots P) _ (converted P tables true a spots)

    abbrev PartPlaces : StaticPart → Type 0
    PartPlaces part = IfThere (TypedExprSpots P) part.pointer

    no_pointer : (part : StaticPart) → part.pointer ≡ None → PartPlaces part
    no_pointer part none e is = absurd (none-some e (sym none ∙ is))

    byte_parts : {tables : Tables} {path : List CellStep} {k : Kind} {i : ℕ} {bytes : List ℕ} {are : List StaticPart} → AreByteParts tables path k i bytes are → Each PartPlaces are
    byte_parts statics.no_more = each_none PartPlaces
    byte_parts (statics.next {is = one} part value pointer others) = each_more PartPlaces _ _ (no_pointer one pointer) (byte_parts others)

    static_parts : {tables : Tables} {parts : List PartGiven} {are : List StaticPart} → AreStaticParts tables parts are → GivenSpots P parts → Each PartPlaces are
    static_parts statics.no_more spots = each_none PartPlaces
    static_parts (statics.expression part value others) (of_value a, rest) = each_more PartPlaces _ _ (static_value value a) (static_parts others rest)
    static_parts (statics.bytes bytes others) spots = each_both PartPlaces _ _ (byte_parts bytes) (static_parts others spots.1)
    static_parts (statics.word {is = one} part value pointer others) spots = each_more PartPlaces _ _ (no_pointer one pointer) (static_parts others spots.1)

    object_spots : {types : List CType} {list : List Entity} {given : StaticObject} → IsStaticObject externs unit types list given → UnitSpots P unit → ObjectSpots P given
    object_spots is spots =
        let of = is.of in
        let d = among_spots of.declarator (node_spots P externs unit spots of.stands).declarators in
        let init = (subst (PartsSpots P) of.is_given (in_initialiser P of.scope (specifiers_of of.env of.node) of.env' of.d d.init)).0 in
        record {
          spot = subst P (sym is.spot) (named_place d.declarator of.has_name);
          parts = static_parts is.are_parts (given_spots P is.are_given init);
        }

    -- ---- bodies

    body_spots : {types : List CType} {list : List Entity} {env : Env} {definition : Definition} {body : Body} → IsBody externs unit types list env definition body → FunctionSpots P definition
        → BodySpots P body
    body_spots is spots =
        record {
          spot = subst P (sym is.spot) spots.spot;
          locals = local_places is.locals spots;
          block = stmt_made P is.block (stmt_place P spots.body) (t.block (items P _ is.are_items (block_item_list P _ (in_body_form P (stmt_form P spots.body)) _ _)));
        }

    bodies_spots : {types : List CType} {list : List Entity} {parts : List Placed} {bodies : List Body} → AreBodies externs unit types list parts bodies → PartsSpots P parts → Each (BodySpots P) bodies
    bodies_spots units.no_more spots = each_none (BodySpots P)
    bodies_spots (units.definition is others) (p.function one, rest) = each_more (BodySpots P) _ _ (body_spots is one) (bodies_spots others rest)
    bodies_spots (units.declaration others) spots = bodies_spots others spots.1
    bodies_spots (units.empty others) spots = bodies_spots others spots.1

    -- ---- the source

    pub typed_unit_spots : {typed : TypedUnit} → UnitSpots P unit → IsTypedUnit externs unit typed → TypedUnitSpots P typed
    typed_unit_spots {typed} spots is =
        record {
          entities = entity_spots is.entities spots;
          objects = each_at (ObjectSpots P) typed.objects (λ o object at. object_spots (is.objects.each o object at) spots);
          bodies = bodies_spots is.bodies (in_turn P unit.externals spots (around externs unit));
        }
