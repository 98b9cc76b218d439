-- A state behind another one, and what stays as it is in it.
use Rattle.std.proofs.Common.{◌≡◌, ◌∙◌, ◌≤◌, ℕ, Bool, List, [], Option, Some, None, All, IfSome, length, refl, sym, ap, subst, arith}
use Rattle.std.specs.Prelude.{slice_get}
use Rattle.std.specs.Option.{option_map}
use Rattle.std.proofs.lemmas.List.{length-map}
use Rattle.std.proofs.lemmas.List.Elements.{All-push}
use Rattle.lk_types.proofs.GrowLemmas.{form_grown, longer_same, longer_then}
use Rattle.lk_types.specs.Building.{IsPassed, IsTable}
use Rattle.lk_types.specs.Table.{IsKnown}
use Rattle.lk_types.specs.declared.c_type.CType.TheVariants.{Array}
use Rattle.lk_typed.proofs.Meanings.{meaning_stays}
use Rattle.lk_typed.specs.Env.{Env, extend, Additions}
use Rattle.lk_typed.specs.Meaning.{meaning}
use Rattle.lk_typed.specs.declared.members.Members.{Members}
use Rattle.lk_names.proofs.KnownScopes.{known_left_stays}
use Rattle.lk_names.specs.Growing.{InLeftScope, IsKnownLeft}
use Rattle.lk_names.specs.InScope.{InScope}
use Rattle.lk_found.proofs.Shaping.{known_stays, layers_known, passed_stays}
use Rattle.lk_found.specs.Shaped.{IsKnownAt, IsKnownLeft as IsKnownType}
use Rattle.lk_found.specs.Shapes.{IsElementIn}
use Rattle.lk_found.specs.Structs.{listed}
use Rattle.lk_found.specs.Walked.{HasLayer}
use Rattle.lk_found.specs.declared.shapes.LayerAt.{LayerAt}
use Rattle.lk_found.specs.declared.shapes.Left.{Left}
use Rattle.lk_found.specs.declared.walked.Walked.{Walked}
use Rattle.lk_found.specs.Begun.{KeepsBegun}
use Rattle.lk_checker.specs.Moves.{Grows, Puts, IsSame, IsFurther, GrowsAlone}
use Rattle.lk_checker.specs.Shaped.{IsKnownWalked}
use Rattle.lk_checker.specs.States.{operand_in, IsIn, IsSound, StandsIn}
use Rattle.lk_checker.specs.declared.checker.Checker.{Checker}

-- ---- further

pub same_further : (a : Checker) → IsSound a → IsFurther a a
same_further a sound = record { longer = longer_same a.types; sound = sound; outside = refl; begun = λ s begun. begun }

pub then_further : (a b c : Checker) → IsFurther a b → IsFurther b c → IsFurther a c
then_further a b c f g = record {
  longer = longer_then a.types b.types c.types f.longer g.longer;
  sound = g.sound;
  outside = g.outside ∙ f.outside;
  begun = λ s begun. g.begun s (f.begun s begun);
}

pub puts_further : (a b : Checker) → Puts a b → IsFurther a b
puts_further a b puts = record { longer = puts.longer; sound = puts.sound; outside = puts.outside; begun = λ s begun. ap (λ (names : InScope). slice_get names.structs s) puts.names ∙ begun }

pub grows_further : (a b : Checker) → Grows a b → b.names.structs ≡ a.names.structs → IsFurther a b
grows_further a b grows same = record { longer = grows.longer; sound = grows.sound; outside = grows.outside; begun = λ s begun. ap (λ (structs : List Members). slice_get structs s) same ∙ begun }

-- the environment behind additions is asked as the one before them
pub stands_behind : (old new : Checker) (in_size : Bool) (env : Env) (a : Additions) → StandsIn old (operand_in in_size) env → IsIn new (extend env a) → StandsIn new (operand_in in_size) (extend env a)
stands_behind old new in_size env a is behind = record { is_in = behind; role = is.role; in_size = is.in_size }

-- all is as it was but for what is kept
pub same_sound : (old new : Checker) → IsSame old new → IsSound old → IsSound new
same_sound old new same sound = record {
  ready = rw same.types sound.ready;
  few = rw same.types sound.few;
  scope = rw same.types (rw same.names sound.scope);
  structs = rw same.types (rw same.names sound.structs);
}

pub is_further : (old new : Checker) → IsSame old new → IsSound old → IsFurther old new
is_further old new same sound = record {
  longer = rw same.types (longer_same old.types);
  sound = same_sound old new same sound;
  outside = same.outside;
  begun = λ s begun. ap (λ (names : InScope). slice_get names.structs s) same.names ∙ begun;
}

-- ---- what is known stays so

module _ (old new : Checker) (sound : IsSound old) (further : IsFurther old new) where
  abbrev good : IsTable old.types
  good = sound.ready.table_is

  abbrev later : IsTable new.types
  later = further.sound.ready.table_is

  more_structs : length old.names.structs ≤ length new.names.structs
  more_structs =
      let few = ap length sound.structs.members ∙ length-map old.names.structs listed in
      let many = ap length further.sound.structs.members ∙ length-map new.names.structs listed in
      let more = further.longer.structs in
      omega (arith, few, many, more)

  pub type_known : (t : Option ℕ) → IfSome t (IsKnown old.types) → IfSome t (IsKnown new.types)
  type_known None known = tt
  type_known (Some t) known = known_stays old.types new.types good later further.longer t known

  pub type_same : (t : Option ℕ) → IfSome t (IsKnown old.types) → option_map (meaning new.types) t ≡ option_map (meaning old.types) t
  type_same None known = refl
  type_same (Some t) known = ap Some (meaning_stays old.types new.types good further.longer t known)

  pub passed_known : (t : Option ℕ) → IfSome t (IsPassed old.types) → IfSome t (IsPassed new.types)
  passed_known None known = tt
  passed_known (Some t) known = passed_stays old.types new.types good later further.longer t known

  pub left_known : (left : Left) → IsKnownType old.types left → IsKnownType new.types left
  left_known left known = (type_known left.ty known.0, element_known left.ty known.0 known.1)
    where
      element_known : (t : Option ℕ) → IfSome t (IsKnown old.types) → IfSome t (IsElementIn old.types left.element) → IfSome t (IsElementIn new.types left.element)
      element_known None known part = tt
      element_known (Some t) known part = λ complete sound. form_grown old.types new.types good further.longer (Array t 1) (part complete sound)

  pub scope_known : (o : Option InLeftScope) → IfSome o (IsKnownLeft old.types (length old.names.structs)) → IfSome o (IsKnownLeft new.types (length new.names.structs))
  scope_known None known = tt
  scope_known (Some scope) known = known_left_stays old.types new.types further.longer (length old.names.structs) (length new.names.structs) more_structs scope known

  pub walked_known : (walked : Walked) → IsKnownWalked old walked → IsKnownWalked new walked
  walked_known walked known = record {
    layers = layers_known old.types new.types good later further.longer walked.layers.items known.layers;
    parameters = scope_known walked.parameters known.parameters;
  }

-- one more form is known
pub layer_known : (new : Checker) (before after : Walked) (l : LayerAt) (holds : Bool) → IsKnownWalked new before → IsKnownAt new.types l → HasLayer before after l holds → IsKnownWalked new after
layer_known new before after l holds known is more = record {
  layers = subst (All (IsKnownAt new.types)) (sym more.layers) (All-push (IsKnownAt new.types) before.layers.items l known.layers is);
  parameters = subst (λ o. IfSome o (IsKnownLeft new.types (length new.names.structs))) (sym more.parameters) known.parameters;
}

pub nothing_known : (new : Checker) (walked : Walked) → walked.layers.items ≡ [] → walked.parameters ≡ None → IsKnownWalked new walked
nothing_known new walked layers parameters = record {
  layers = subst (All (IsKnownAt new.types)) (sym layers) (λ k d within. absurd (omega (arith, within)));
  parameters = subst (λ o. IfSome o (IsKnownLeft new.types (length new.names.structs))) (sym parameters) tt;
}

pub alone_further : (old new : Checker) → GrowsAlone old new → KeepsBegun old.names.structs new.names.structs → IsFurther old new
alone_further old new grows begun = record { longer = grows.longer; sound = grows.sound; outside = grows.outside; begun = begun }

pub grows_then : (a b c : Checker) → Grows a b → Grows b c → Grows a c
grows_then a b c f g = record { longer = longer_then a.types b.types c.types f.longer g.longer; sound = g.sound; outside = g.outside ∙ f.outside; kept = g.kept ∙ f.kept; records = g.records ∙ f.records }
