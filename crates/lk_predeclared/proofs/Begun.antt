-- The state where a source begins.
use Rattle.std.proofs.Common.{◌≡◌, ◌∙◌, [], List, All, refl, sym, ap, subst, map}
use Rattle.std.proofs.lemmas.List.Elements.{All-nil}
use Rattle.lk_tree.specs.declared.statement.Unit.{Unit}
use Rattle.lk_typed.specs.Env.{Declared, Env, Name}
use Rattle.lk_typed.specs.Library.{predeclared_names}
use Rattle.lk_typed.specs.Names.{declared_in}
use Rattle.lk_typed.specs.Units.{around}
use Rattle.lk_names.specs.InScope.{InScope, env_in, nothing_in_scope}
use Rattle.lk_found.specs.Structs.{HasMembers, listed}
use Rattle.lk_checker.specs.States.{IsIn, IsSound}
use Rattle.lk_checker.specs.declared.checker.Checker.{Checker}
use Rattle.lk_checker.specs.declared.checker.Outside.{Outside}
use Rattle.lk_checker.specs.Sources.{IsOutsideOf}
use Rattle.lk_predeclared.specs.Plain.{Grows}
use Rattle.lk_predeclared.specs.Scope.{AddsNames, HasScope, all_declared}

all_names : all_declared ≡ predeclared_names
unfolding predeclared_names
all_names = refl

module _ (first last : Checker) (sound : IsSound first) (nothing : first.names ≡ nothing_in_scope) (grows : Grows first.types last.types)
    (adds : AddsNames first.types first.names last.types last.names all_declared) where
  none_before : HasScope first.types first.names []
  none_before = record {
    known = sound.scope;
    names_are = ap (λ scope. map (declared_in first.types) scope.declared) nothing;
    alone = ap (λ (scope : InScope). record scope { declared = [] }) nothing;
  }

  -- the predeclared names are in scope
  has_all : HasScope last.types last.names predeclared_names
  has_all = subst (HasScope last.types last.names) all_names (adds [] none_before)

  pub begins_sound : IsSound last
  begins_sound = record {
    ready = grows.ready;
    few = grows.few sound.few;
    scope = has_all.known;
    structs = record {
      members = grows.members ∙ sound.structs.members ∙ ap (λ (scope : InScope). map listed scope.structs) nothing ∙ sym (ap (λ (scope : InScope). map listed scope.structs) has_all.alone);
      some = subst (λ (scope : InScope). All HasMembers scope.structs) (sym has_all.alone) (All-nil HasMembers);
    };
  }

  env_is : (rest : Env) → env_in last.types rest last.names ≡ record rest { declared = predeclared_names; base = 0; tags = []; tag_base = 0; structs = [] }
  env_is rest =
      ap (λ (scope : InScope). env_in last.types rest (record scope { declared = last.names.declared })) has_all.alone ∙
      ap (λ (names : List Declared). record rest { declared = names; base = 0; tags = []; tag_base = 0; structs = [] }) has_all.names_are

  pub begins_in : (outside : Outside) → last.outside ≡ outside → (externs : List Name) (unit : Unit) → IsOutsideOf outside externs unit → IsIn last (around externs unit)
  begins_in outside same externs unit is = record {
    scope = env_is (around externs unit);
    defined = rw same is.defined;
    externs = rw same is.listed;
  }
