-- A struct begins, fails and is completed, in the table and in the names alike.
use Rattle.std.proofs.Common.{◌≡◌, ◌∙◌, ◌<◌, ℕ, true, false, List, [], ◌∷◌, Option, Some, None, length, map, refl, sym, ap, subst, All}
use Rattle.std.specs.Prelude.{if◌then◌else◌, unwrap_or}
use Rattle.std.specs.List.{slice_get, slice_set}
use Rattle.std.specs.Option.{option_map}
use Rattle.std.proofs.lemmas.List.{length-map, map-set}
use Rattle.std.proofs.lemmas.List.Elements.{All-set}
use Rattle.std.proofs.lemmas.Option.{slice_get-map, slice_get_within}
use Rattle.lk_types.proofs.NewLemmas.{predeclared_types_stay}
use Rattle.lk_types.proofs.RoomLemmas.{not_over}
use Rattle.lk_types.specs.Building.{IsTable, IsLonger, IsPartOfObjects, CanComplete, with_members, types_of}
use Rattle.lk_types.specs.Sizes.{fields_size, is_too_large}
use Rattle.lk_types.specs.Table.{Table, is_empty}
use Rattle.lk_types.specs.declared.member.StructMember.{StructMember}
use Rattle.lk_typed.specs.Env.{Env, Begins, Completes, both, extend, AStructTag}
use Rattle.lk_typed.specs.Redeclared.{DefinesStruct, may_use}
use Rattle.lk_typed.specs.Told.{Meant, known_or_new, meant, steps, struct_meant_by, tag_additions, tag_found}
use Rattle.lk_typed.specs.Typings.{members_in}
use Rattle.lk_typed.specs.declared.members.Field.{Field}
use Rattle.lk_typed.specs.declared.members.Members.{Members}
use Rattle.lk_typed.specs.declared.members.Members.TheVariants.{Begun, Known}
use Rattle.lk_names.proofs.KnownScopes.{known_stays}
use Rattle.lk_names.specs.InScope.{InScope, IsKnownScope}
use Rattle.lk_found.proofs.Environments.{extend_both, extend_nothing}
use Rattle.lk_found.specs.Structs.{HasMembers, listed, member_of}
use Rattle.lk_found.proofs.Completing.{listed_set, map_parts, types_are, empty_same, tagged}
use Rattle.lk_typed.specs.Env as env
use Rattle.lk_checker.proofs.States.{few_stays}
use Rattle.lk_checker.specs.Moves.{IsMeant}
use Rattle.lk_checker.specs.States.{IsIn, IsSound}
use Rattle.lk_checker.specs.declared.checker.Checker.{Checker}

-- ---- the state

-- of a struct that isn't complete something is known that the table doesn't have
pub step_sound : (old new : Checker) (s : ℕ) (before after : Members) → IsSound old → new.types ≡ old.types → new.names ≡ record old.names { structs = slice_set old.names.structs s after } →
    slice_get old.names.structs s ≡ Some before → listed before ≡ listed after → HasMembers after → IsKnownScope old.types new.names → IsSound new
step_sound old new s before after sound types names got same has scope = record {
  ready = rw types sound.ready;
  few = rw types sound.few;
  scope = rw types scope;
  structs = record {
    members = ap (λ (table : Table). table.members) types ∙ sound.structs.members ∙ sym (listed_set old.names.structs s before after got same) ∙
        ap (λ (names : InScope). map listed names.structs) (sym names);
    some = subst (λ (names : InScope). All HasMembers names.structs) (sym names) (All-set HasMembers old.names.structs s after has sound.structs.some);
  };
}

pub can_complete : (checker : Checker) → IsSound checker → (s : ℕ) → slice_get checker.names.structs s ≡ Some Begun → (fields : List Field) → is_empty fields ≡ false →
    All (λ field. IsPartOfObjects checker.types field.ty) fields → is_too_large (fields_size checker.types (map (λ field. field.ty) fields)) ≡ false →
    (members : List StructMember) → members ≡ map member_of fields → CanComplete checker.types s members
can_complete checker sound s begun fields some parts small members are =
    let structs = checker.names.structs in
    let within = slice_get_within structs s Begun begun in
    record {
      known = subst (λ (ms : List (List StructMember)). s < length ms) (sym sound.structs.members) (subst (λ n. s < n) (sym (length-map structs listed)) within);
      incomplete = ap (λ (ms : List (List StructMember)). is_empty (unwrap_or (slice_get ms s) [])) sound.structs.members ∙
          ap (λ o. is_empty (unwrap_or o [])) (slice_get-map listed structs s ∙ ap (option_map listed) begun);
      members = ap is_empty are ∙ empty_same fields ∙ some;
      parts = subst (λ members. All (λ (member : StructMember). IsPartOfObjects checker.types member.ty) members) (sym are) (map_parts (λ member. IsPartOfObjects checker.types member.ty) fields parts);
      small = not_over (fields_size checker.types (types_of members))
          (ap (λ members. is_too_large (fields_size checker.types (types_of members))) are ∙ ap (λ ts. is_too_large (fields_size checker.types ts)) (types_are fields) ∙ small);
    }

pub completed_sound : (old new : Checker) → IsSound old → (s : ℕ) (fields : List Field) (members : List StructMember) → members ≡ map member_of fields → is_empty fields ≡ false → IsTable new.types →
    IsLonger old.types new.types → new.types ≡ with_members old.types s members → new.names ≡ record old.names { structs = slice_set old.names.structs s (Known fields) } →
    IsKnownScope old.types new.names → IsSound new
completed_sound old new sound s fields members are some good longer types names scope = record {
  ready = record { table_is = good; predeclared = predeclared_types_stay old.types new.types longer sound.ready.predeclared };
  few = few_stays old.types new.types sound.ready.table_is longer (ap (λ (table : Table). table.types) types) sound.few;
  scope = known_stays old.types new.types longer new.names scope;
  structs = record {
    members = ap (λ (table : Table). table.members) types ∙ ap (λ ms. slice_set ms s members) sound.structs.members ∙ ap (slice_set (map listed old.names.structs) s) are ∙
        sym (map-set listed old.names.structs s (Known fields)) ∙ ap (λ (names : InScope). map listed names.structs) (sym names);
    some = subst (λ (names : InScope). All HasMembers names.structs) (sym names) (All-set HasMembers old.names.structs s (Known fields) some sound.structs.some);
  };
}

pub known_meant : (new : Checker) (e : Env) (tag : Option env.Name) (found : Option ℕ) (s : ℕ) → found ≡ Some s → IsIn new e → IsMeant new e (known_or_new e tag found) s
known_meant new e tag found s is inside =
    subst (λ found. IsMeant new e (known_or_new e tag found) s) (sym is) (record { number = refl; behind = subst (IsIn new) (sym (extend_nothing e)) inside })

pub new_meant : (new : Checker) (e : Env) (tag : Option env.Name) (found : Option ℕ) (s : ℕ) → found ≡ None → s ≡ length e.structs →
    IsIn new (extend (extend e (steps (Begins ∷ []))) (tag_additions tag (AStructTag s))) → IsMeant new e (known_or_new e tag found) s
new_meant new e tag found s is number inside =
    subst (λ found. IsMeant new e (known_or_new e tag found) s) (sym is)
    (record {
      number = number;
      behind = subst (λ n. IsIn new (extend e (both (tag_additions tag (AStructTag n)) (steps (Begins ∷ []))))) number
          (subst (IsIn new) (extend_both e (steps (Begins ∷ [])) (tag_additions tag (AStructTag s)) ∙ ap (extend e) (tagged tag (AStructTag s))) inside);
    })

-- the structs of an environment are those of the state
pub as_many : (checker : Checker) (e : Env) → IsIn checker e → length e.structs ≡ length checker.names.structs
as_many checker e is = ap (λ (e : Env). length e.structs) (sym is.scope) ∙ length-map checker.names.structs (members_in checker.types)

-- ---- the struct that a definition means

pub refused_meant : (new : Checker) (e : Env) (tag : Option env.Name) (s : ℕ) → may_use e (tag_found e DefinesStruct tag) DefinesStruct ≡ false → s ≡ length e.structs →
    IsIn new (extend e (steps (Begins ∷ []))) → IsMeant new e (struct_meant_by e tag) s
refused_meant new e tag s refused number inside =
    subst (λ (m : Meant). IsMeant new e m s) (sym (ap (λ b. if b then meant e (tag_found e DefinesStruct tag) tag else known_or_new e None None) refused))
    (record { number = number; behind = inside })

pub admitted_meant : (new : Checker) (e : Env) (tag : Option env.Name) (s : ℕ) → may_use e (tag_found e DefinesStruct tag) DefinesStruct ≡ true →
    IsMeant new e (meant e (tag_found e DefinesStruct tag) tag) s → IsMeant new e (struct_meant_by e tag) s
admitted_meant new e tag s admitted is =
    subst (λ (m : Meant). IsMeant new e m s) (sym (ap (λ b. if b then meant e (tag_found e DefinesStruct tag) tag else known_or_new e None None) admitted)) is

-- the definition begins
pub begun_meant : (new : Checker) (e : Env) (m : Meant) (s : ℕ) → s ≡ m.number → IsIn new (extend (extend e m.additions) (steps (Completes s env.Begun ∷ []))) →
    IsIn new (extend e (both m.additions (steps (Completes m.number env.Begun ∷ []))))
begun_meant new e m s number inside =
    subst (λ n. IsIn new (extend e (both m.additions (steps (Completes n env.Begun ∷ []))))) number
    (subst (IsIn new) (extend_both e m.additions (steps (Completes s env.Begun ∷ []))) inside)
