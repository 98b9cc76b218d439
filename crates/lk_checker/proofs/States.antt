-- The state of the checker stays sound where types, tags and structs come into it.
use Rattle.std.proofs.Common.{◌≡◌, ◌∙◌, ◌<◌, ◌^◌, ◌++◌, ℕ, [], ◌∷◌, length, map, sym, ap, subst, All}
use Rattle.std.proofs.lemmas.List.{map-append}
use Rattle.std.proofs.lemmas.List.Elements.{All-push}
use Rattle.lk_types.proofs.NewLemmas.{predeclared_types_stay}
use Rattle.lk_types.specs.Building.{IsTable, IsLonger, IsPut, found, added}
use Rattle.lk_types.specs.Table.{Table, IsKnown}
use Rattle.lk_types.specs.declared.c_type.CType.{CType}
use Rattle.lk_types.proofs.GrowLemmas.{longer_then}
use Rattle.lk_typed.proofs.Elements.{few_put}
use Rattle.lk_typed.proofs.Meanings.{meaning_stays}
use Rattle.lk_typed.specs.DeclaratorRules.{elements}
use Rattle.lk_typed.specs.Elements.{HasFewElements, IsFew}
use Rattle.lk_typed.specs.Env.{Env, Additions, extend}
use Rattle.lk_typed.specs.declared.members.Members.TheVariants.{NotYet}
use Rattle.lk_names.proofs.Environments.{environment_stays}
use Rattle.lk_names.proofs.KnownScopes.{known_stays}
use Rattle.lk_names.specs.Growing.{Adds}
use Rattle.lk_names.specs.InScope.{InScope, IsKnownScope, env_in}
use Rattle.lk_found.specs.Shapes.{IsGrown}
use Rattle.lk_found.specs.Structs.{HasMembers, listed}
use Rattle.lk_checker.specs.Moves.{GoesOn, Puts}
use Rattle.lk_checker.specs.States.{IsIn, IsSound}
use Rattle.lk_checker.specs.declared.checker.Checker.{Checker}

-- ---- the table

pub few_stays : (old new : Table) → IsTable old → IsLonger old new → new.types ≡ old.types → HasFewElements old → HasFewElements new
few_stays old new good longer same few t known =
    let there : IsKnown old t = subst (λ types. t < length types) same known in
    subst (λ a. elements a < 2 ^ 64) (sym (meaning_stays old new good longer t there)) (few t there)

put_members : (old new : Table) (form : CType) (t : ℕ) → IsPut old new form t → new.members ≡ old.members
put_members old new form t (found there same) = ap (λ table. table.members) same
put_members old new form t (added absent last is) = is.members

pub put_grown : (old new : Table) (form : CType) (t : ℕ) → IsTable old → IsTable new → IsLonger old new → IsPut old new form t → IsFew old form → IsGrown old new
put_grown old new form t good new_good longer put few = record {
  longer = longer;
  members = put_members old new form t put;
  few = few_put old new form t good new_good longer put few;
}

-- ---- the state

pub puts_then : (a b c : Checker) → Puts a b → Puts b c → Puts a c
puts_then a b c first second = record {
  longer = longer_then a.types b.types c.types first.longer second.longer;
  sound = second.sound;
  outside = second.outside ∙ first.outside;
  names = second.names ∙ first.names;
  records = second.records ∙ first.records;
}

-- types were put
pub grown_sound : (old new : Checker) → IsSound old → IsTable new.types → IsGrown old.types new.types → new.names ≡ old.names → IsSound new
grown_sound old new sound good grown same = record {
  ready = record { table_is = good; predeclared = predeclared_types_stay old.types new.types grown.longer sound.ready.predeclared };
  few = grown.few sound.few;
  scope = subst (IsKnownScope new.types) (sym same) (known_stays old.types new.types grown.longer old.names sound.scope);
  structs = record {
    members = grown.members ∙ sound.structs.members ∙ ap (λ (names : InScope). map listed names.structs) (sym same);
    some = subst (λ (names : InScope). All HasMembers names.structs) (sym same) sound.structs.some;
  };
}

-- a struct began
pub begun_sound : (old new : Checker) → IsSound old → IsTable new.types → IsLonger old.types new.types →
    new.types ≡ record old.types { members = old.types.members ++ [] ∷ [] } → new.names ≡ record old.names { structs = old.names.structs ++ NotYet ∷ [] } →
    IsKnownScope old.types new.names → IsSound new
begun_sound old new sound good longer types names scope = record {
  ready = record { table_is = good; predeclared = predeclared_types_stay old.types new.types longer sound.ready.predeclared };
  few = few_stays old.types new.types sound.ready.table_is longer (ap (λ (table : Table). table.types) types) sound.few;
  scope = known_stays old.types new.types longer new.names scope;
  structs = record {
    members = ap (λ (table : Table). table.members) types ∙ ap (λ members. members ++ [] ∷ []) sound.structs.members ∙
        sym (map-append listed old.names.structs (NotYet ∷ [])) ∙ ap (λ (names : InScope). map listed names.structs) (sym names);
    some = subst (λ (names : InScope). All HasMembers names.structs) (sym names) (All-push HasMembers old.names.structs NotYet sound.structs.some tt);
  };
}

-- ---- environments

-- names, tags or structs came
pub goes_on : (old new : Checker) (more : Table → Additions) → IsSound old → IsLonger old.types new.types → Adds old.names new.names more → new.outside ≡ old.outside →
    GoesOn old new (λ env. more new.types)
goes_on old new more sound longer adds outside env is = record {
  scope = adds new.types env ∙ ap (λ e. extend e (more new.types)) (environment_stays old.types new.types sound.ready.table_is longer old.names sound.scope env ∙ is.scope);
  defined = rw outside is.defined;
  externs = rw outside is.externs;
}

-- all is as it was
pub same_in : (old new : Checker) → new.types ≡ old.types → new.names ≡ old.names → new.outside ≡ old.outside → (env : Env) → IsIn old env → IsIn new env
same_in old new types names outside env is = record {
  scope = ap (λ (table : Table). env_in table env new.names) types ∙ ap (env_in old.types env) names ∙ is.scope;
  defined = rw outside is.defined;
  externs = rw outside is.externs;
}

-- types came
pub stays_in : (old new : Checker) → IsSound old → IsLonger old.types new.types → new.names ≡ old.names → new.outside ≡ old.outside → (env : Env) → IsIn old env → IsIn new env
stays_in old new sound longer names outside env is = record {
  scope = ap (env_in new.types env) names ∙ environment_stays old.types new.types sound.ready.table_is longer old.names sound.scope env ∙ is.scope;
  defined = rw outside is.defined;
  externs = rw outside is.externs;
}
