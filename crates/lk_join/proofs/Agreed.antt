-- Where sources agree, each entity of a source fits to those of the sources before it.
use Rattle.std.proofs.Common.{◌≡◌, ◌∙◌, ◌⊎◌, ◌<◌, ◌≤◌, inl, inr, ℕ, zero, suc, List, [], ◌∷◌, None, Option, Some, ap, arith, refl, subst, sym}
use Rattle.std.proofs.lemmas.Bool.{cases_lt, false≢true}
use Rattle.std.proofs.lemmas.Option.{none-some, same_Some, slice_get_within}
use Rattle.std.specs.List.{slice_get}
use Rattle.std.specs.Option.{option_map}
use Rattle.std.specs.Prelude.{unwrap_or}
use Rattle.lk_base.specs.declared.code.Code.TheVariants.{DefinedTwice, TypesDiffer}
use Rattle.lk_link.specs.EntityKinds.{HasOwnKind, is_function_form, is_function_kind}
use Rattle.lk_link.specs.Sources.{AreSources, DefinesAt, IsDefining, IsDefinition, IsEntity, IsSource, Units}
use Rattle.lk_link.specs.Structs.{types_in}
use Rattle.lk_link.specs.Types.{AreOne}
use Rattle.lk_link.specs.Types.AreOne.{plain, pointers, arrays, structs, functions}
use Rattle.lk_link.specs.declared.place.SizeRule.{SizeRule}
use Rattle.lk_typed.specs.declared.entity.Declaration.{Declaration}
use Rattle.lk_typed.specs.declared.entity.Defines.{Defines}
use Rattle.lk_typed.specs.declared.entity.Defines.TheVariants.{Nothing, Tentative, Whole}
use Rattle.lk_typed.specs.declared.entity.Entity.{Entity}
use Rattle.lk_typed.specs.declared.entity.EntityKind.{EntityKind}
use Rattle.lk_typed.specs.declared.entity.EntityKind.TheVariants.{Function, Object}
use Rattle.lk_typed.specs.declared.entity.Linkage.TheVariants.{External}
use Rattle.lk_typed.specs.declared.unit.TypedUnit.{TypedUnit}
use Rattle.lk_typed.specs.declared.whole.WholeEntity.{WholeEntity}
use Rattle.lk_types.proofs.KeptLemmas.{read_got}
use Rattle.lk_types.proofs.SizeLemmas.{all_read}
use Rattle.lk_types.specs.declared.c_type.CType.{CType}
use Rattle.lk_join.specs.Agreeing.{AreAgreed, FitFrom, Fits}
use Rattle.lk_join.specs.Entities.{AreEntityRows}

-- ---- types that are one are both types of functions, or neither is

one_form : {rule : SizeRule} {OneStruct : ℕ → ℕ → Type 0} {ts us : List CType} {t u : ℕ} → AreOne rule OneStruct ts us t u → (f g : CType) → slice_get ts t ≡ Some f → slice_get us u ≡ Some g →
    is_function_form f ≡ is_function_form g
one_form (plain a b is_plain) f g at other = ap is_function_form (sym (same_Some _ f (sym a ∙ at)) ∙ same_Some _ g (sym b ∙ other))
one_form (pointers a b inner) f g at other = ap is_function_form (sym (same_Some _ f (sym a ∙ at))) ∙ ap is_function_form (same_Some _ g (sym b ∙ other))
one_form (arrays a b sizes inner) f g at other = ap is_function_form (sym (same_Some _ f (sym a ∙ at))) ∙ ap is_function_form (same_Some _ g (sym b ∙ other))
one_form (structs a b one) f g at other = ap is_function_form (sym (same_Some _ f (sym a ∙ at))) ∙ ap is_function_form (same_Some _ g (sym b ∙ other))
one_form (functions a b result params) f g at other = ap is_function_form (sym (same_Some _ f (sym a ∙ at))) ∙ ap is_function_form (same_Some _ g (sym b ∙ other))

-- ---- the first definition in a list of declarations

record IsFirstOf (list : List Declaration) (is : Declaration) : Type 0 where
  place : ℕ
  at : slice_get list place ≡ Some is
  defines : IsDefining is.defines
  first : (p : ℕ) (other : Declaration) → slice_get list p ≡ Some other → IsDefining other.defines → other.ordinal < is.ordinal → ⊥

abbrev NoneDefines : List Declaration → Type 0
NoneDefines list = (p : ℕ) (other : Declaration) → slice_get list p ≡ Some other → IsDefining other.defines → ⊥

defines_or_not : (is : Declaration) → IsDefining is.defines ⊎ (IsDefining is.defines → ⊥)
defines_or_not is = is_defining is.defines
  where
    is_defining : (what : Defines) → IsDefining what ⊎ (IsDefining what → ⊥)
    is_defining Nothing = inr (λ never. never)
    is_defining Tentative = inl tt
    is_defining Whole = inl tt

with_first : (d : Declaration) (list : List Declaration) → IsDefining d.defines ⊎ (IsDefining d.defines → ⊥) → ((is : Declaration) × IsFirstOf list is) ⊎ NoneDefines list →
    ((is : Declaration) × IsFirstOf (d ∷ list) is) ⊎ NoneDefines (d ∷ list)
with_first d list (inr nothing) (inr none) = inr never
  where
    never : NoneDefines (d ∷ list)
    never zero other at defines = nothing (subst (λ (x : Declaration). IsDefining x.defines) (sym (same_Some d other at)) defines)
    never (suc p) other at defines = none p other at defines
with_first d list (inr nothing) (inl found) = inl (found.0, record { place = suc found.1.place; at = found.1.at; defines = found.1.defines; first = first_later })
  where
    first_later : (p : ℕ) (other : Declaration) → slice_get (d ∷ list) p ≡ Some other → IsDefining other.defines → other.ordinal < found.0.ordinal → ⊥
    first_later zero other at defines less = nothing (subst (λ (x : Declaration). IsDefining x.defines) (sym (same_Some d other at)) defines)
    first_later (suc p) other at defines less = found.1.first p other at defines less
with_first d list (inl defines) (inr none) = inl (d, record { place = 0; at = refl; defines = defines; first = first_alone })
  where
    first_alone : (p : ℕ) (other : Declaration) → slice_get (d ∷ list) p ≡ Some other → IsDefining other.defines → other.ordinal < d.ordinal → ⊥
    first_alone zero other at also less = let same = ap (λ (x : Declaration). x.ordinal) (same_Some d other at) in omega (arith, less, same)
    first_alone (suc p) other at also less = none p other at also
with_first d list (inl defines) (inl found) = elim (cases_lt d.ordinal found.0.ordinal) [
  | inl before ↦ inl (d, record { place = 0; at = refl; defines = defines; first = first_here before })
  | inr later ↦ inl (found.0, record { place = suc found.1.place; at = found.1.at; defines = found.1.defines; first = first_there later })
]
  where
    first_here : d.ordinal < found.0.ordinal → (p : ℕ) (other : Declaration) → slice_get (d ∷ list) p ≡ Some other → IsDefining other.defines → other.ordinal < d.ordinal → ⊥
    first_here before zero other at also less = let same = ap (λ (x : Declaration). x.ordinal) (same_Some d other at) in omega (arith, less, same)
    first_here before (suc p) other at also less = found.1.first p other at also (omega (arith, before, less))

    first_there : found.0.ordinal ≤ d.ordinal → (p : ℕ) (other : Declaration) → slice_get (d ∷ list) p ≡ Some other → IsDefining other.defines → other.ordinal < found.0.ordinal → ⊥
    first_there later zero other at also less = let same = ap (λ (x : Declaration). x.ordinal) (same_Some d other at) in omega (arith, later, less, same)
    first_there later (suc p) other at also less = found.1.first p other at also less

find_first : (list : List Declaration) → ((is : Declaration) × IsFirstOf list is) ⊎ NoneDefines list
find_first [] = inr (λ p other at. absurd (none-some other at))
find_first (d ∷ list) = with_first d list (defines_or_not d) (find_first list)

-- an entity that is defined has a first definition
first_of : (entity : Entity) → IsDefinition entity → (is : Declaration) × IsFirstOf entity.declarations is
first_of entity defined = elim (find_first entity.declarations) [
  | inl found ↦ found
  | inr none ↦ absurd (none defined.0 defined.1 (read_got entity.declarations defined.0 defined.1 defined.2 (sym defined.3)) defined.4)
]

-- ---- two entities of one name, in two sources

module _ (units : Units) (sources : AreSources units) (agreed : AreAgreed units) where
  source_of : (s e : ℕ) (entity : Entity) → (of : IsEntity units s e entity) → IsSource of.unit
  source_of s e entity of = all_read IsSource units s of.unit sources of.at

  kind_of : (s e : ℕ) (entity : Entity) → (of : IsEntity units s e entity) → HasOwnKind of.unit.types entity
  kind_of s e entity of = all_read (HasOwnKind of.unit.types) of.unit.entities e entity (source_of s e entity of).kinds of.stands

  -- where the first declaration of an entity has its form
  form_at : (s e : ℕ) (entity : Entity) (of : IsEntity units s e entity) → slice_get (types_in units s) (kind_of s e entity of).by.ty ≡ Some (kind_of s e entity of).form
  form_at s e entity of =
      ap (λ (found : Option TypedUnit). slice_get (unwrap_or (option_map (λ unit. unit.types.types) found) []) (kind_of s e entity of).by.ty) of.at ∙ (kind_of s e entity of).form_at

  module _ (s e z d : ℕ) (entity other : Entity) (of : IsEntity units s e entity) (of_other : IsEntity units z d other) (before : z < s)
      (external : entity.linkage ≡ External) (also : other.linkage ≡ External) (same : other.name ≡ entity.name) where
    -- where their kinds differ, so do their types
    no_difference : (is_function_kind other.kind ≡ is_function_kind entity.kind → ⊥) → ⊥
    no_difference kinds =
        let here = kind_of s e entity of in
        let there = kind_of z d other of_other in
        agreed.alike (record { source = s; ordinal = here.by.ordinal; spot = here.by.spot; code = TypesDiffer; name = entity.name })
        (record {
          other_source = z;
          other = there.by;
          there = record { number = d; place = 0; entity = other; of = of_other; named = same; external = also; at = there.by_at };
          later = here.by;
          here = record { number = e; place = 0; entity = entity; of = of; named = refl; external = external; at = here.by_at };
          before = inl before;
          differ = λ alike. kinds (sym there.kind ∙ one_form alike.2 there.form here.form (form_at z d other of_other) (form_at s e entity of) ∙ here.kind);
          ordinal = refl;
          spot = refl;
          code = refl;
        })

    same_kind : other.kind ≡ entity.kind
    same_kind = by_kinds other.kind entity.kind refl refl
      where
        by_kinds : (k l : EntityKind) → other.kind ≡ k → entity.kind ≡ l → other.kind ≡ entity.kind
        by_kinds Function Function p q = p ∙ sym q
        by_kinds Function Object p q = absurd (no_difference (λ equal. false≢true (sym (sym (ap is_function_kind p) ∙ equal ∙ ap is_function_kind q))))
        by_kinds Object Function p q = absurd (no_difference (λ equal. false≢true (sym (ap is_function_kind p) ∙ equal ∙ ap is_function_kind q)))
        by_kinds Object Object p q = p ∙ sym q

    -- not both are defined
    not_both : IsDefinition other → IsDefinition entity → ⊥
    not_both defined_there defined_here =
        let again = first_of entity defined_here in
        let earlier = first_of other defined_there in
        agreed.once (record { source = s; ordinal = again.0.ordinal; spot = again.0.spot; code = DefinedTwice; name = entity.name })
        (record {
          earlier = z;
          before = before;
          there = (earlier.0, (record { number = d; place = earlier.1.place; entity = other; of = of_other; named = same; external = also; at = earlier.1.at }, earlier.1.defines));
          again = again.0;
          here = record {
            stands = (record { number = e; place = again.1.place; entity = entity; of = of; named = refl; external = external; at = again.1.at }, again.1.defines);
            first = first_here again.0 again.1;
          };
          ordinal = refl;
          spot = refl;
          code = refl;
        })
      where
        -- what defines the name in this source is a declaration of this entity
        first_here : (again : Declaration) → IsFirstOf entity.declarations again → (is : Declaration) → DefinesAt units s entity.name is → is.ordinal < again.ordinal → ⊥
        first_here again first is defines less =
            let declares = defines.0 in
            let unit = same_Some declares.of.unit of.unit (sym declares.of.at ∙ of.at) in
            let stands = subst (λ (u : TypedUnit). slice_get u.entities declares.number ≡ Some declares.entity) unit declares.of.stands in
            let number = (source_of s e entity of).names declares.number e declares.entity entity stands of.stands declares.external external declares.named in
            let it = same_Some declares.entity entity (sym stands ∙ ap (slice_get of.unit.entities) number ∙ of.stands) in
            first.first declares.place is (subst (λ (x : Entity). slice_get x.declarations declares.place ≡ Some is) it declares.at) defines.1 less

-- ---- the program's entities

module _ (units : Units) (sources : AreSources units) (agreed : AreAgreed units) (types rows : List (List ℕ)) (list : List WholeEntity) (s : ℕ) (h : AreEntityRows units types rows list s) where
  entity_fits : (e : ℕ) (entity : Entity) → IsEntity units s e entity → Fits list entity
  entity_fits e entity of n there at there_external external name =
      let from = h.gathered.none_else n there at in
      let z = from.source in
      let d = from.number in
      let says = from.says in
      let kept = h.gathered.kept z d n from.is says in
      let it = same_Some kept.0 there (sym kept.1 ∙ at) in
      let other = says.entity in
      let within = slice_get_within rows z says.number.0 says.number.1 in
      let before : z < s = let size = h.size in omega (arith, within, size) in
      let also = sym says.said.linkage ∙ sym kept.2.linkage ∙ ap (λ (x : WholeEntity). x.linkage) it ∙ there_external in
      let same = sym says.said.name ∙ sym kept.2.name ∙ ap (λ (x : WholeEntity). x.name) it ∙ name in
      let kind = same_kind units sources agreed s e z d entity other of says.of before external also same in
      record {
        kind = ap (λ (x : WholeEntity). x.kind) (sym it) ∙ kept.2.kind ∙ says.said.kind ∙ kind;
        defined = λ defined. from.defined ∙ only_declared from.is other (z, d) defined says.said.told (not_both units sources agreed s e z d entity other of says.of before external also same);
      }
    where
      only_declared : (is : WholeEntity) (other : Entity) (place : ℕ × ℕ) → IsDefinition entity → (is.defined ≡ None) ⊎ ((is.defined ≡ Some place) × IsDefinition other) →
          (IsDefinition other → IsDefinition entity → ⊥) → is.defined ≡ None
      only_declared is other place defined (inl nothing) never = nothing
      only_declared is other place defined (inr here) never = absurd (never here.1 defined)

  -- all entities of the next source fit
  pub all_fit : (unit : TypedUnit) → slice_get units s ≡ Some unit → FitFrom list unit.entities 0
  all_fit unit at e entity from entity_at = entity_fits e entity (record { unit = unit; at = at; stands = entity_at })
