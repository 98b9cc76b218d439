-- The state of the checker stays sound, and in its environment, while its table grows.
use Rattle.std.proofs.Common.{◌≡◌, ◌∙◌, map, All, sym, ap, subst}
use Rattle.lk_types.specs.Building.{IsLonger}
use Rattle.lk_typed.specs.Elements.{HasFewElements}
use Rattle.lk_typed.specs.Env.{Env}
use Rattle.lk_typed.specs.Meaning.{IsReady}
use Rattle.lk_names.proofs.Environments.{environment_stays}
use Rattle.lk_names.proofs.KnownScopes.{known_stays}
use Rattle.lk_names.specs.InScope.{InScope, IsKnownScope, env_in}
use Rattle.lk_found.specs.Structs.{HasMembers, listed}
use Rattle.lk_checker.specs.States.{IsIn, IsSound}
use Rattle.lk_checker.specs.declared.checker.Checker.{Checker}

pub sound_longer : (old new : Checker) → IsSound old → IsLonger old.types new.types → IsReady new.types → HasFewElements new.types → new.types.members ≡ old.types.members → new.names ≡ old.names →
    IsSound new
sound_longer old new sound longer ready few members same = record {
  ready = ready;
  few = few;
  scope = subst (IsKnownScope new.types) (sym same) (known_stays old.types new.types longer old.names sound.scope);
  structs = record {
    members = members ∙ sound.structs.members ∙ ap (λ (names : InScope). map listed names.structs) (sym same);
    some = subst (λ (names : InScope). All HasMembers names.structs) (sym same) sound.structs.some;
  };
}

pub in_longer : (old new : Checker) (env : Env) → IsSound old → IsLonger old.types new.types → new.names ≡ old.names → new.outside ≡ old.outside → IsIn old env → IsIn new env
in_longer old new env sound longer names outside is = record {
  scope = ap (env_in new.types env) names ∙ environment_stays old.types new.types sound.ready.table_is longer old.names sound.scope env ∙ is.scope;
  defined = rw outside is.defined;
  externs = rw outside is.externs;
}
