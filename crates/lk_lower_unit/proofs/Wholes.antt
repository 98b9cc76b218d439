-- A program that is put together of typed trees has what its sources name.
use Rattle.std.proofs.Common.{All, arith, ap, sym, subst, ◌∙◌, ◌≡◌, ◌<◌, ℕ, zero, suc, List, [], ◌∷◌, length, slice_get, unwrap_or, Option, None, Some, refl}
use Rattle.std.proofs.lemmas.List.Elements.{All-head, All-tail}
use Rattle.std.proofs.lemmas.Option.{none-some, same_Some, slice_get-map, slice_get_within}
use Rattle.std.specs.List.{AllZip, Contains, find}
use Rattle.std.specs.Option.{option_and_then, option_map, option_or}
use Rattle.lk_facts.proofs.Sets.{All-got}
use Rattle.lk_join.specs.Joining.{IsTypeHere, units_of, external, same}
use Rattle.lk_link.specs.Clashes.{HasMain, IsMain}
use Rattle.lk_link.specs.Sources.{IsEntity}
use Rattle.lk_link.specs.Structs.{types_in}
use Rattle.lk_link.proofs.TypedSources.{typed_units_are_sources}
use Rattle.lk_lower_expr.specs.Lowering.{declaration_of, is_tentative, is_whole}
use Rattle.lk_lower_parts.proofs.FunctionCounts.{at_index}
use Rattle.lk_lower_parts.specs.Sources.{defined_of}
use Rattle.lk_lower_parts.specs.Wholes as wholes
use Rattle.lk_lower_parts.specs.Wholes.{IsEntityOf, IsWhole}
use Rattle.lk_lower_unit.proofs.Defined.{body_defined}
use Rattle.lk_lower_unit.specs.Wholes.{IsNumbered, IsOfSources}
use Rattle.lk_tree.specs.declared.statement.Unit.{Unit}
use Rattle.lk_typed.specs.Env.{Name}
use Rattle.lk_typed.specs.TypedUnits.{IsTypedUnit}
use Rattle.lk_typed.specs.declared.entity.Declaration.{Declaration}
use Rattle.lk_typed.specs.declared.entity.Entity.{Entity}
use Rattle.lk_typed.specs.declared.unit.Body.{Body}
use Rattle.lk_typed.specs.declared.unit.TypedUnit.{TypedUnit}
use Rattle.lk_typed.specs.declared.whole.Linked.{Linked}
use Rattle.lk_typed.specs.declared.whole.Whole.{Whole}
use Rattle.lk_typed.specs.declared.whole.WholeEntity.{WholeEntity}
use Rattle.lk_types.proofs.KeptLemmas.{read_got}
use Rattle.lk_types.specs.Table.{IsKnown}

-- ---- the declaration that counts

-- of several declarations one counts
counts : (list : List Declaration) (x : Declaration) → Contains list x → (first second : Option Declaration) → (by : Declaration) × (option_or first (option_or second (slice_get list 0)) ≡ Some by)
counts list x there (Some a) second = (a, refl)
counts list x there None (Some b) = (b, refl)
counts [] x there None None = absurd (omega (arith, there.1))
counts (y ∷ list) x there None None = (y, refl)

-- so an entity with a declaration has one
declared : (entity : Entity) (x : Declaration) → Contains entity.declarations x → (by : Declaration) × (declaration_of entity ≡ Some by)
declared entity x there = counts entity.declarations x there (find (λ is. is_whole is.defines) entity.declarations) (find (λ is. is_tentative is.defines) entity.declarations)

-- ---- typed trees

-- the tree of a source, with numbers, of which it is the typed tree
abbrev HasTree : List Name → TypedUnit → Type 0
HasTree externs unit = (tree : Unit) × IsNumbered tree × IsTypedUnit externs tree unit

typed_at : (externs : List Name) (trees : List Unit) (units : List TypedUnit) → All IsNumbered trees → AllZip (IsTypedUnit externs) trees units → (s : ℕ) (unit : TypedUnit) → slice_get units s ≡ Some unit → HasTree externs unit
typed_at externs [] [] numbers typed s unit at = absurd (none-some unit at)
typed_at externs [] (u ∷ units) numbers typed s unit at = absurd typed
typed_at externs (tree ∷ trees) [] numbers typed s unit at = absurd typed
typed_at externs (tree ∷ trees) (u ∷ units) numbers typed zero unit at = (tree, All-head IsNumbered tree trees numbers, subst (IsTypedUnit externs tree) (same_Some u unit at) typed.0)
typed_at externs (tree ∷ trees) (u ∷ units) numbers typed (suc s) unit at = typed_at externs trees units (All-tail IsNumbered tree trees numbers) typed.1 s unit at

-- ---- the program

module _ (whole : Whole) (is : IsOfSources whole) where
  unit_at : (s : ℕ) (linked : Linked) → slice_get whole.sources s ≡ Some linked → slice_get (units_of whole) s ≡ Some linked.unit
  unit_at s linked at = slice_get-map (λ (l : Linked). l.unit) whole.sources s ∙ ap (option_map (λ (l : Linked). l.unit)) at

  -- each is a typed tree
  typed_here : (s : ℕ) (unit : TypedUnit) → slice_get (units_of whole) s ≡ Some unit → HasTree is.externs unit
  typed_here s unit at = typed_at is.externs is.trees is.units is.numbers is.typed s unit (subst (λ us. slice_get us s ≡ Some unit) is.linked.joined.sources at)

  same_linked : (s : ℕ) (a b : Linked) → slice_get whole.sources s ≡ Some a → slice_get whole.sources s ≡ Some b → a ≡ b
  same_linked s a b at too = same_Some a b (sym at ∙ too)

  -- a type of a source has its number in the program
  type_here : (s t here : ℕ) (unit : TypedUnit) → slice_get (units_of whole) s ≡ Some unit → t < length unit.types.types → IsTypeHere whole s t here → IsKnown whole.types here
  type_here s t here unit at within is_here =
      let form = at_index unit.types.types t within in
      let read : slice_get (types_in (units_of whole) s) t ≡ Some form.0 = ap (λ o. slice_get (unwrap_or (option_map (λ (u : TypedUnit). u.types.types) o) []) t) at ∙ form.1 in
      let has = is.linked.joined.types.has s t form.0 read in
      let number = same_Some has.0 here (sym has.2.2 ∙ ap (λ (l : Linked). slice_get l.types t) (same_linked s has.2.0 is_here.0 has.2.1 is_here.1) ∙ is_here.2) in
      subst (IsKnown whole.types) number (slice_get_within whole.types.types has.0 has.1 has.3)

  -- so the type of an entity of the program is one of its types
  type_known : (here : ℕ) (kept : WholeEntity) → slice_get whole.entities here ≡ Some kept → IsKnown whole.types kept.ty
  type_known here kept at =
      let from = is.linked.joined.entities.none_else here kept at in
      let unit = from.of.unit in
      let typed = typed_here from.source unit from.of.at in
      type_here from.source from.entity.ty kept.ty unit from.of.at
      (All-got (λ (x : Entity). IsKnown unit.types x.ty) unit.entities from.number from.entity (typed_units_are_sources is.externs typed.0 unit typed.2).typed from.of.stands) from.type

  -- the program keeps that a source defines the entity of a body
  bodies_here : (s b : ℕ) (linked : Linked) (body : Body) → slice_get whole.sources s ≡ Some linked → slice_get linked.unit.bodies b ≡ Some body → IsEntityOf whole s linked body.entity
  bodies_here s b linked body at at_b =
      let typed = typed_here s linked.unit (unit_at s linked at) in
      let entity = body_defined is.externs typed.1.0 typed.0 typed.1.1 linked.unit typed.2 b body at_b in
      let by = declared entity.0 entity.2.1 (entity.2.0, entity.2.2, entity.2.3) in
      let kept = is.linked.joined.entities.kept s body.entity entity.0 (record { unit = linked.unit; at = unit_at s linked at; stands = entity.1 }) in
      record {
        declared = record { entity = entity.0; at = entity.1; by = by.0; declared = by.1 };
        kept = record {
          number = kept.0;
          numbered = subst (λ (l : Linked). slice_get l.entities body.entity ≡ Some kept.0) (same_linked s kept.2.0 linked kept.2.1 at) kept.2.2;
          here = kept.1;
          is = kept.3;
          there = kept.4.defined entity.2;
          known = type_known kept.0 kept.1 kept.3;
        };
      }

  -- ---- main

  -- the entity of a source that defines main is the program's
  main_at : (s e : ℕ) (entity : Entity) → IsEntity (units_of whole) s e entity → IsMain entity → wholes.HasMain whole
  main_at s e entity of main =
      let joined = is.linked.joined in
      let kept = joined.entities.kept s e entity of in
      let from = joined.entities.none_else whole.main joined.main_ joined.main_is in
      let others = joined.entities.kept from.source from.number from.entity from.of in
      let number = (joined.entities.one from.source from.number from.source from.number others.0 whole.main others.2 from.at).1 (same refl refl) in
      let is_here : others.1 ≡ joined.main_ = same_Some others.1 joined.main_ (sym others.3 ∙ ap (slice_get whole.entities) number ∙ joined.main_is) in
      let linkage = sym others.4.linkage ∙ ap (λ (x : WholeEntity). x.linkage) is_here ∙ joined.external in
      let name = sym others.4.name ∙ ap (λ (x : WholeEntity). x.name) is_here ∙ joined.named in
      let here = (joined.entities.one s e from.source from.number kept.0 whole.main kept.2 from.at).1 (external of from.of main.external linkage (main.named ∙ sym name)) in
      let linked = kept.2.0 in
      let unit_is = same_Some linked.unit of.unit (sym (unit_at s linked kept.2.1) ∙ of.at) in
      let by = declared entity main.defined.1 (main.defined.0, main.defined.2, main.defined.3) in
      record {
        source = s;
        number = e;
        defined = ap (λ n. defined_of whole n) (sym here) ∙ ap (option_and_then (λ (x : WholeEntity). x.defined)) kept.3 ∙ kept.4.defined main.defined;
        is = record {
          linked = linked;
          at = kept.2.1;
          numbered = kept.2.2 ∙ ap Some here;
          declared = record { entity = entity; at = ap (λ (u : TypedUnit). slice_get u.entities e) unit_is ∙ of.stands; by = by.0; declared = by.1 };
        };
      }

  has_main : wholes.HasMain whole
  has_main =
      let has : HasMain (units_of whole) = subst HasMain (sym is.linked.joined.sources) is.linked.has_main in
      main_at has.0 has.4.0 has.4.1 (record { unit = has.1; at = read_got (units_of whole) has.0 has.1 has.2 (sym has.3); stands = read_got has.1.entities has.4.0 has.4.1 has.4.2 (sym has.4.3) }) has.4.4

  pub whole_is : IsWhole whole
  whole_is = record { bodies = bodies_here; main = has_main }
