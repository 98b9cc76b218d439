-- Designators, one after the other.
use Rattle.std.proofs.Common.{◌≡◌, ◌∙◌, ℕ, Bool, true, false, List, [], ◌∷◌, Some, refl, sym, ap, subst}
use Rattle.std.specs.Prelude.{◌&&◌}
use Rattle.lk_tree.specs.declared.declaration.Designator.{Designator}
use Rattle.lk_tree.specs.declared.declaration.Designator.TheVariants as designator
use Rattle.lk_tree.specs.declared.expression.Expr.{Expr}
use Rattle.lk_typed.specs.Env.{Env, extend}
use Rattle.lk_typed.specs.Initialisers.{designator_adds, designator_part, designator_parts, designators_add}
use Rattle.lk_typed.specs.NodeRules.{are_typed}
use Rattle.lk_typed.specs.StatementRules.{condition_rules}
use Rattle.lk_checker.specs.States.{IsSound}
use Rattle.lk_checker.specs.declared.checker.Checker.{Checker}
use Rattle.lk_check_walk.proofs.Walking.{no_walk, then_walks}
use Rattle.lk_check_walk.specs.Walks.{Walks}
use Rattle.lk_check_unit.specs.Bodies.{Asks, IsPlain}
use Rattle.lk_check_unit.specs.Initialising.{WalksDesignator, WalksDesignators}
use Rattle.lk_check_unit.specs.declared.body.Asked.{Asked}
use Rattle.lk_check_unit.proofs.Standing.{plain_behind}
use Rattle.lk_check_unit.proofs.Typed.{typed_both}

pub by_member : (d : Designator) (name : List ℕ) (checker : Checker) → IsSound checker → d ≡ designator.Member name → WalksDesignator d checker checker true
by_member d name checker sound is =
    subst (λ d. WalksDesignator d checker checker true) (sym is) (record { walks = λ at_end env plain. no_walk at_end checker env sound plain.is_in; typed = λ env plain. refl })

pub by_index : (d : Designator) (e : Expr) (old new : Checker) (asked : Asked) → d ≡ designator.Index e → Asks old new (Some e) condition_rules asked → WalksDesignator d old new asked.is_typed
by_index d e old new asked is asks = subst (λ d. WalksDesignator d old new asked.is_typed) (sym is) (record { walks = asks.walks; typed = asks.typed })

-- those that are left are walked behind those before them
pub record DesignatorsLeft (at_end : Env) (c0 c : Checker) (env : Env) (so_far : Bool) (all left : List Designator) : Type 0 where
  pub here : Env
  pub plain : IsPlain c here
  pub on : (new : Checker) → Walks at_end c new here (designators_add here left) (designator_parts here left) → Walks at_end c0 new env (designators_add env all) (designator_parts env all)
  pub typed : are_typed (designator_parts env all) ≡ (so_far && are_typed (designator_parts here left))

abbrev pub AreLeft : Checker → Checker → Bool → List Designator → List Designator → Type 0
AreLeft c0 c so_far all left = (at_end env : Env) → IsPlain c0 env → DesignatorsLeft at_end c0 c env so_far all left

pub all_left : (c : Checker) (all : List Designator) → AreLeft c c true all all
all_left c all at_end env plain = record { here = env; plain = plain; on = λ new walks. walks; typed = refl }

pub and_then : (a b c : Bool) → (a && (b && c)) ≡ ((a && b) && c)
and_then true b c = refl
and_then false b c = refl

pub one_less : (c0 c c1 : Checker) (so_far typed : Bool) (all left rest : List Designator) (d : Designator) → left ≡ d ∷ rest → AreLeft c0 c so_far all left → WalksDesignator d c c1 typed → AreLeft c0 c1 (so_far && typed) all rest
one_less c0 c c1 so_far typed all left rest d is were walks at_end env plain =
    let old = were at_end env plain in
    let w = walks.walks at_end old.here old.plain in
    let here = extend old.here (designator_adds old.here d) in
    record {
      here = here;
      plain = plain_behind at_end c c1 old.here (designator_adds old.here d) (designator_part old.here d) old.plain w;
      on = λ new more.
          old.on new
          (subst (λ ds. Walks at_end c new old.here (designators_add old.here ds) (designator_parts old.here ds)) (sym is)
          (then_walks at_end c c1 new old.here (designator_adds old.here d) (designators_add here rest) (designator_part old.here d) (designator_parts here rest) w more));
      typed =
          old.typed ∙
          (ap (λ ds. so_far && are_typed (designator_parts old.here ds)) is ∙
          (ap (λ b. so_far && b) (typed_both (designator_part old.here d) (designator_parts here rest)) ∙
          (ap (λ b. so_far && (b && are_typed (designator_parts here rest))) (sym (walks.typed old.here old.plain)) ∙ and_then so_far typed (are_typed (designator_parts here rest)))));
    }

pub and_true : (a : Bool) → (a && true) ≡ a
and_true true = refl
and_true false = refl

pub none_left : (c0 c : Checker) (so_far : Bool) (all left : List Designator) → IsSound c → left ≡ [] → AreLeft c0 c so_far all left → WalksDesignators all c0 c so_far
none_left c0 c so_far all left sound is were =
    record {
      walks = λ at_end env plain.
          let old = were at_end env plain in
          old.on c (subst (λ ds. Walks at_end c c old.here (designators_add old.here ds) (designator_parts old.here ds)) (sym is) (no_walk at_end c old.here sound old.plain.is_in));
      typed = λ env plain. let old = were env env plain in sym (old.typed ∙ (ap (λ ds. so_far && are_typed (designator_parts old.here ds)) is ∙ and_true so_far));
    }
