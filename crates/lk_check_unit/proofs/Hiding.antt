-- What hides the codes of a declaration: a code in an initialiser without a type.
use Rattle.std.proofs.Common.{◌≡◌, ◌∙◌, ◌↔◌, Bool, true, false, [], ◌∷◌, Option, Some, None, sym, ap, subst}
use Rattle.std.specs.Prelude.{◌&&◌, ◌||◌, not, slice_get, if◌then◌else◌}
use Rattle.lk_tree.specs.declared.declaration.Init.{Init}
use Rattle.lk_types.specs.Building.{IsLonger}
use Rattle.lk_types.proofs.GrowLemmas.{longer_same}
use Rattle.lk_typed.specs.Declarations.{initialiser_adds}
use Rattle.lk_typed.specs.Env.{Env}
use Rattle.lk_typed.specs.NodeRules.{has_type, those_without_type}
use Rattle.lk_typed.specs.Nodes.{AnInitialiser, Placed, at}
use Rattle.lk_typed.specs.declared.members.Members.TheVariants.{Begun}
use Rattle.lk_names.specs.InScope.{InScope}
use Rattle.lk_rules.proofs.Kept.{a_watch_tells_faults, none_broken}
use Rattle.lk_rules.specs.Keeping.{IsBroken, KeepsNodes, seen_by}
use Rattle.lk_check_decl.specs.declared.initialisers.Target.{Target}
use Rattle.lk_checker.specs.States.{IsSound, kept_in, recorded_in}
use Rattle.lk_checker.specs.declared.checker.Checker.{Checker}
use Rattle.lk_check_walk.proofs.Walking.{no_walk}
use Rattle.lk_check_walk.proofs.Truth.{truth_behind, truth_still}
use Rattle.lk_check_walk.specs.Walks.{Walks}
use Rattle.lk_check_unit.specs.Bodies.{Grows, IsPlain}
use Rattle.lk_check_unit.specs.InitDeclarators.{HidesCodes}
use Rattle.lk_check_unit.specs.Initialising.{IsKnownTarget, WalksInit, object_for}
use Rattle.lk_check_unit.proofs.Walking.{is_in_as, sound_as}

false_true : false ≡ true → ⊥
false_true e = cc

-- a part without a type hides where a code is broken in it
hides_one : (at_end : Env) (p : Placed) (typed seen : Bool) → typed ≡ has_type p.env p.node → ((seen ≡ true) ↔ IsBroken at_end (p ∷ [])) → ((not typed && seen) ≡ true) ↔ IsBroken at_end (those_without_type (p ∷ []))
hides_one at_end p typed seen is tells = subst (λ b. ((not typed && seen) ≡ true) ↔ IsBroken at_end (if b then [] else p ∷ [])) is (by typed)
  where
    by : (b : Bool) → ((not b && seen) ≡ true) ↔ IsBroken at_end (if b then [] else p ∷ [])
    by true = ((λ e. absurd (false_true e)), λ h. absurd (none_broken at_end h))
    by false = tells

pub outer_hides : (old watching mid new : Checker) (target : Option Target) (init : Init) (typed before seen : Bool) → watching ≡ record old { is_broken = false } → before ≡ old.is_broken →
    WalksInit target init watching mid typed → seen ≡ mid.is_broken → new ≡ record mid { is_broken = before || mid.is_broken } → HidesCodes old new target (Some init) (not typed && seen)
outer_hides old watching mid new target init typed before seen watch_is before_is walks seen_is new_is = record { walks = walked; hides = hidden }
  where
    plain_in : (env : Env) → IsPlain old env → IsPlain watching env
    plain_in env plain =
        record {
          is_in = is_in_as old watching env (ap (λ (c : Checker). c.types) watch_is) (ap (λ (c : Checker). c.names) watch_is) (ap (λ (c : Checker). c.outside) watch_is) plain.is_in;
          role = plain.role;
          in_size = plain.in_size;
        }

    told : (at_end env : Env) → IsPlain old env →
        ((mid.is_broken ≡ true) ↔ IsBroken at_end (at env (AnInitialiser (object_for watching.types target) init) ∷ [])) ×
        KeepsNodes at_end (kept_in old) (at env (AnInitialiser (object_for watching.types target) init) ∷ []) (seen_by (kept_in old) (kept_in mid))
    told at_end env plain =
        a_watch_tells_faults at_end (kept_in old) (kept_in mid) (at env (AnInitialiser (object_for watching.types target) init) ∷ [])
        (subst (λ k. KeepsNodes at_end k (at env (AnInitialiser (object_for watching.types target) init) ∷ []) (kept_in mid)) (ap kept_in watch_is) (walks.walks at_end env (plain_in env plain)).keeps)

    same_object : object_for watching.types target ≡ object_for old.types target
    same_object = ap (λ (c : Checker). object_for c.types target) watch_is

    kept_is : seen_by (kept_in old) (kept_in mid) ≡ kept_in new
    kept_is = ap (λ b. kept_in (record mid { is_broken = b || mid.is_broken })) (sym before_is) ∙ sym (ap kept_in new_is)

    walked : (at_end env : Env) → IsPlain old env → Walks at_end old new env (initialiser_adds env (Some init)) (at env (AnInitialiser (object_for old.types target) init) ∷ [])
    walked at_end env plain =
        let w = walks.walks at_end env (plain_in env plain) in
        let types_are = ap (λ (c : Checker). c.types) new_is in
        let names_are = ap (λ (c : Checker). c.names) new_is in
        let outside_is = ap (λ (c : Checker). c.outside) new_is in
        subst (λ o. Walks at_end old new env (initialiser_adds env (Some init)) (at env (AnInitialiser o init) ∷ [])) same_object
        (record {
          longer = subst (λ t. IsLonger t new.types) (ap (λ (c : Checker). c.types) watch_is) (subst (IsLonger watching.types) (sym types_are) w.longer);
          sound = sound_as mid new types_are names_are w.sound;
          outside = outside_is ∙ (w.outside ∙ ap (λ (c : Checker). c.outside) watch_is);
          behind = is_in_as mid new _ types_are names_are outside_is w.behind;
          begun = λ s is. subst (λ (n : InScope). slice_get n.structs s ≡ Some Begun) (sym names_are) (w.begun s (subst (λ (n : InScope). slice_get n.structs s ≡ Some Begun) (sym (ap (λ (c : Checker). c.names) watch_is)) is));
          keeps = subst (KeepsNodes at_end (kept_in old) (at env (AnInitialiser (object_for watching.types target) init) ∷ [])) kept_is (told at_end env plain).1;
          records = truth_behind at_end old watching new (at env (AnInitialiser (object_for watching.types target) init) ∷ []) (ap recorded_in watch_is)
              (truth_still at_end watching mid new (at env (AnInitialiser (object_for watching.types target) init) ∷ []) w.sound.ready.table_is (subst (IsLonger mid.types) (sym types_are) (longer_same mid.types))
              (ap recorded_in new_is) w.records);
        })

    hidden : (at_end env : Env) → IsPlain old env → ((not typed && seen) ≡ true) ↔ IsBroken at_end (those_without_type (at env (AnInitialiser (object_for old.types target) init) ∷ []))
    hidden at_end env plain =
        subst (λ o. ((not typed && seen) ≡ true) ↔ IsBroken at_end (those_without_type (at env (AnInitialiser o init) ∷ []))) same_object
        (hides_one at_end (at env (AnInitialiser (object_for watching.types target) init)) typed seen (walks.typed env (plain_in env plain))
        (subst (λ b. (b ≡ true) ↔ IsBroken at_end (at env (AnInitialiser (object_for watching.types target) init) ∷ [])) (sym seen_is) (told at_end env plain).0))

pub none_hides : (checker : Checker) (target : Option Target) → IsSound checker → HidesCodes checker checker target None false
none_hides checker target sound =
    record {
      walks = λ at_end env plain. no_walk at_end checker env sound plain.is_in;
      hides = λ at_end env plain. ((λ e. absurd (false_true e)), λ h. absurd (none_broken at_end h));
    }

pub grows_watched : (old watching mid new : Checker) (before : Bool) → watching ≡ record old { is_broken = false } → Grows watching mid → new ≡ record mid { is_broken = before || mid.is_broken } → Grows old new
grows_watched old watching mid new before watch_is grows new_is =
    record {
      sound = sound_as mid new (ap (λ (c : Checker). c.types) new_is) (ap (λ (c : Checker). c.names) new_is) grows.sound;
      longer = subst (λ t. IsLonger t new.types) (ap (λ (c : Checker). c.types) watch_is) (subst (IsLonger watching.types) (sym (ap (λ (c : Checker). c.types) new_is)) grows.longer);
    }

pub watched_sound : (old watching : Checker) → watching ≡ record old { is_broken = false } → IsSound old → IsSound watching
watched_sound old watching is sound = sound_as old watching (ap (λ (c : Checker). c.types) is) (ap (λ (c : Checker). c.names) is) sound

pub watched_known : (old watching : Checker) (target : Option Target) → watching ≡ record old { is_broken = false } → IsKnownTarget old.types target → IsKnownTarget watching.types target
watched_known old watching target is known = subst (λ t. IsKnownTarget t target) (sym (ap (λ (c : Checker). c.types) is)) known
