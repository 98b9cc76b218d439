-- The typed tree of a source has what is asked of a checked source.
use Rattle.std.proofs.Common.{◌≡◌, ◌∙◌, ◌<◌, ℕ, zero, suc, inr, true, List, [], ◌∷◌, Some, length, unwrap_or, refl, sym, subst, ap, All}
use Rattle.std.proofs.lemmas.List.Elements.{All-nil, All-cons}
use Rattle.std.proofs.lemmas.Option.{same_Some, slice_get_within}
use Rattle.std.specs.List.{slice_get}
use Rattle.lk_tree.specs.declared.statement.Unit.{Unit}
use Rattle.lk_types.specs.Table.{IsKnown, Table}
use Rattle.lk_types.specs.declared.c_type.CType.{CType}
use Rattle.lk_types.specs.declared.member.StructMember.{StructMember}
use Rattle.lk_typed.specs.Entities.{AreEntities}
use Rattle.lk_typed.specs.Env.{Field, Members, Name}
use Rattle.lk_typed.specs.Redeclared.{is_linked_alike}
use Rattle.lk_typed.specs.Structs.{AreMembers, AreStructs}
use Rattle.lk_typed.specs.Structs.AreMembers.{no_more as no_fields, next}
use Rattle.lk_typed.specs.Structs.AreStructs.{no_more as no_structs, incomplete, complete}
use Rattle.lk_typed.specs.Ty.{Ty, Means}
use Rattle.lk_typed.specs.Ty.Means.{a_void, an_integer, a_thread_id, a_mutex, a_cond, a_pointer, an_array, a_struct, a_function, an_opaque}
use Rattle.lk_typed.specs.declared.entity.Entity.{Entity}
use Rattle.lk_typed.specs.declared.entity.Linkage.TheVariants.{External}
use Rattle.lk_typed.specs.declared.unit.Body.{Body}
use Rattle.lk_link.specs.EntityKinds.{HasOwnKind}
use Rattle.lk_link.specs.Laws.{TypedUnitsAreSources}
use Rattle.lk_link.specs.Sources.{HaveOwnNames}
use Rattle.lk_link.proofs.DeclaredKinds.{form_of, kind_declared}

-- what holds of each element that is read holds of all
all_that_are_read : {X : Type 0} (P : X → Type 0) (xs : List X) → ((i : ℕ) (x : X) → slice_get xs i ≡ Some x → P x) → All P xs
all_that_are_read P [] each = All-nil P
all_that_are_read P (x ∷ xs) each = All-cons P x xs (each 0 x refl) (all_that_are_read P xs (λ i y at. each (suc i) y at))

-- ---- types that mean something

module _ (types : List CType) where
  abbrev IsThere : ℕ → Type 0
  IsThere t = t < length types

  -- a number that means a type is one of the table's
  means_known : {t : ℕ} {type : Ty} → Means types t type → IsThere t
  means_known {t} (a_void at) = slice_get_within types t _ at
  means_known {t} (an_integer at) = slice_get_within types t _ at
  means_known {t} (a_thread_id at) = slice_get_within types t _ at
  means_known {t} (a_mutex at) = slice_get_within types t _ at
  means_known {t} (a_cond at) = slice_get_within types t _ at
  means_known {t} (a_pointer at target) = slice_get_within types t _ at
  means_known {t} (an_array at element) = slice_get_within types t _ at
  means_known {t} (a_struct at) = slice_get_within types t _ at
  means_known {t} (a_function at result params) = slice_get_within types t _ at
  means_known {t} (an_opaque at) = slice_get_within types t _ at

  -- ---- structs

  abbrev HasTypeThere : StructMember → Type 0
  HasTypeThere member = IsThere member.ty

  member_types : {list : List Field} {are : List StructMember} → AreMembers types list are → All HasTypeThere are
  member_types no_fields = All-nil HasTypeThere
  member_types (next {is = one} {rest = rest} name means others) = All-cons HasTypeThere one rest (means_known means) (member_types others)

  -- as many are in the table as the source has
  same_count : {list : List Members} {are : List (List StructMember)} → AreStructs types list are → length are ≡ length list
  same_count no_structs = refl
  same_count (incomplete others) = ap suc (same_count others)
  same_count (complete all others) = ap suc (same_count others)

  struct_types : {list : List Members} {are : List (List StructMember)} → AreStructs types list are → (s : ℕ) → All HasTypeThere (unwrap_or (slice_get are s) [])
  struct_types no_structs s = All-nil HasTypeThere
  struct_types (incomplete others) zero = All-nil HasTypeThere
  struct_types (incomplete others) (suc s) = struct_types others s
  struct_types (complete all others) zero = member_types all
  struct_types (complete all others) (suc s) = struct_types others s

-- ---- entities

module _ (externs : List Name) (unit : Unit) (table : Table) (bodies : List Body) (entities : List Entity) (are : AreEntities externs unit table.types bodies entities) where
  own_kind : (e : ℕ) (entity : Entity) → slice_get entities e ≡ Some entity → HasOwnKind table entity
  own_kind e entity at =
      let first = are.first e entity at in
      let by = first.4 in
      let has = form_of by.of.type in
      record {
        by = by.is;
        by_at = subst (λ (x : Entity). slice_get x.declarations 0 ≡ Some by.is) (same_Some by.at.entity entity (sym by.at.at ∙ at)) by.at.has;
        form = has.form;
        form_at = has.at;
        kind = has.alike ∙ kind_declared entity.kind first.3.declares first.5.kind;
      }

  own_names : HaveOwnNames entities
  own_names e f a b a_at b_at a_external b_external same =
      let first = are.first e a a_at in
      let other = are.first f b b_at in
      let n = first.2 in
      let m = other.2 in
      let linked : is_linked_alike n.is.linkage m.is.linkage ≡ true =
      subst (λ l. is_linked_alike l m.is.linkage ≡ true) (sym a_external ∙ first.5.linkage) (subst (λ l. is_linked_alike External l ≡ true) (sym b_external ∙ other.5.linkage) refl) in
      (are.one e 0 f 0 first.0 other.0 first.1 other.1 n m first.3 other.3 first.4 other.4).1 (inr (linked, sym first.5.name ∙ same ∙ other.5.name))

-- ---- the source

pub typed_units_are_sources : TypedUnitsAreSources
typed_units_are_sources externs unit typed is =
    let known = IsKnown typed.types in
    record {
      tags = is.tags.count ∙ sym (same_count typed.types.types is.types.structs);
      members = λ s within. struct_types typed.types.types is.types.structs s;
      declared = all_that_are_read (λ entity. All (λ declaration. known declaration.ty) entity.declarations) typed.entities
          (λ e entity at. all_that_are_read (λ declaration. known declaration.ty) entity.declarations
          (λ k declaration has. means_known typed.types.types (is.entities.none_else e k declaration (record { entity = entity; at = at; has = has })).4.type));
      typed = all_that_are_read (λ entity. known entity.ty) typed.entities (λ e entity at. means_known typed.types.types (is.entities.first e entity at).5.is_type);
      kinds = all_that_are_read (HasOwnKind typed.types) typed.entities (own_kind externs unit typed.types typed.bodies typed.entities is.entities);
      names = own_names externs unit typed.types typed.bodies typed.entities is.entities;
    }
