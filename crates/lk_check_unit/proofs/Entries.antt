-- The entries of a list in braces, one after the other.
use Rattle.std.proofs.Common.{◌≡◌, ◌∙◌, ◌++◌, ℕ, suc, Bool, true, List, [], ◌∷◌, Option, Some, None, map, refl, sym, ap, subst, append_assoc}
use Rattle.std.specs.Prelude.{◌&&◌}
use Rattle.lk_tree.specs.declared.declaration.Entry.{Entry}
use Rattle.lk_types.proofs.GrowLemmas.{known_same}
use Rattle.lk_types.specs.Building.{IsLonger}
use Rattle.lk_typed.proofs.Meanings.{meaning_stays}
use Rattle.lk_typed.specs.Env.{Env, extend}
use Rattle.lk_typed.specs.InitialiserRules.{Object}
use Rattle.lk_typed.specs.Initialisers.{designator_parts, designators_add, entries_in_turn, entry_object, in_turn, init_adds}
use Rattle.lk_typed.specs.NodeRules.{are_typed, has_type}
use Rattle.lk_typed.specs.Nodes.{AnInitialiser, at}
use Rattle.lk_check_decl.specs.declared.initialisers.Target.{Target}
use Rattle.lk_found.proofs.Environments.{extend_both}
use Rattle.lk_checker.specs.States.{IsSound}
use Rattle.lk_checker.specs.declared.checker.Checker.{Checker}
use Rattle.lk_check_walk.proofs.Walking.{no_walk, then_walks}
use Rattle.lk_check_walk.specs.Walks.{Walks}
use Rattle.lk_check_unit.specs.Bodies.{IsPlain}
use Rattle.lk_check_unit.specs.Initialising.{IsKnownTarget, WalksDesignators, WalksEntries, WalksEntry, WalksInit, entry_adds, object_for}
use Rattle.lk_check_unit.proofs.Designated.{and_then, and_true}
use Rattle.lk_check_unit.proofs.Standing.{plain_behind}
use Rattle.lk_check_unit.proofs.Typed.{typed_both}

pub object_stays : (old new : Checker) → IsSound old → IsLonger old.types new.types → (target : Option Target) → IsKnownTarget old.types target → object_for new.types target ≡ object_for old.types target
object_stays old new sound longer None known = refl
object_stays old new sound longer (Some t) known =
    ap (λ type. Some (record { type = type; is_inner = t.is_inner; is_static = t.is_static })) (meaning_stays old.types new.types sound.ready.table_is longer t.ty known)

-- those that are left are walked behind those before them; the next has this number
pub record EntriesLeft (at_end : Env) (c0 c : Checker) (env : Env) (so_far : Bool) (object : Option Object) (text : Option ℕ) (k : ℕ) (all left : List Entry) : Type 0 where
  pub here : Env
  pub plain : IsPlain c here
  pub on : (new : Checker) → Walks at_end c new here (in_turn (map entry_adds left) here) (entries_in_turn object text here k left) →
      Walks at_end c0 new env (in_turn (map entry_adds all) env) (entries_in_turn object text env 0 all)
  pub typed : are_typed (entries_in_turn object text env 0 all) ≡ (so_far && are_typed (entries_in_turn object text here k left))

abbrev pub AreLeft : Option Target → Option ℕ → Checker → Checker → Bool → ℕ → List Entry → List Entry → Type 0
AreLeft target text c0 c so_far k all left = (at_end env : Env) → IsPlain c0 env → EntriesLeft at_end c0 c env so_far (object_for c0.types target) text k all left

pub all_left : (target : Option Target) (text : Option ℕ) (c : Checker) (all : List Entry) → AreLeft target text c c true 0 all all
all_left target text c all at_end env plain = record { here = env; plain = plain; on = λ new walks. walks; typed = refl }

pub one_less : (target : Option Target) (text : Option ℕ) (c0 c c1 : Checker) (so_far typed : Bool) (k j : ℕ) (all left rest : List Entry) (e : Entry) → j ≡ suc k → left ≡ e ∷ rest →
    object_for c.types target ≡ object_for c0.types target → AreLeft target text c0 c so_far k all left → WalksEntry target text k e c c1 typed →
    AreLeft target text c0 c1 (so_far && typed) j all rest
one_less target text c0 c c1 so_far typed k j all left rest e next is same were walks at_end env plain =
    let old = were at_end env plain in
    let object = object_for c0.types target in
    let here = old.here in
    let w = subst (λ o. Walks at_end c c1 here (entry_adds e here) (entries_in_turn o text here k (e ∷ []))) same (walks.walks at_end here old.plain) in
    let typed_is = subst (λ o. typed ≡ are_typed (entries_in_turn o text here k (e ∷ []))) same (walks.typed here old.plain) in
    let ds = designators_add here e.designators in
    let behind = extend here ds in
    let one = at behind (AnInitialiser (entry_object behind object text k) e.init) ∷ [] in
    let there = extend here (entry_adds e here) in
    let there_is : there ≡ extend behind (init_adds e.init behind) = sym (extend_both here ds (init_adds e.init behind)) in
    let parts = designator_parts here e.designators in
    let others = entries_in_turn object text there (suc k) rest in
    let nodes_are : (parts ++ one) ++ others ≡ entries_in_turn object text here k (e ∷ rest) =
    append_assoc parts one others ∙ ap (λ (n : Env). parts ++ (one ++ entries_in_turn object text n (suc k) rest)) there_is in
    record {
      here = there;
      plain = plain_behind at_end c c1 here (entry_adds e here) (parts ++ one) old.plain w;
      on = λ new more.
          old.on new
          (subst (λ es. Walks at_end c new here (in_turn (map entry_adds es) here) (entries_in_turn object text here k es)) (sym is)
          (subst (λ ps. Walks at_end c new here (in_turn (map entry_adds (e ∷ rest)) here) ps) nodes_are
          (then_walks at_end c c1 new here (entry_adds e here) (in_turn (map entry_adds rest) there) (parts ++ one) others w
          (subst (λ n. Walks at_end c1 new there (in_turn (map entry_adds rest) there) (entries_in_turn object text there n rest)) next more))));
      typed =
          old.typed ∙
          (ap (λ es. so_far && are_typed (entries_in_turn object text here k es)) is ∙
          (ap (λ ps. so_far && are_typed ps) (sym nodes_are) ∙
          (ap (λ b. so_far && b) (typed_both (parts ++ one) others) ∙
          (ap (λ b. so_far && (b && are_typed others)) (sym typed_is) ∙
          (and_then so_far typed (are_typed others) ∙ ap (λ n. (so_far && typed) && are_typed (entries_in_turn object text there n rest)) (sym next))))));
    }

pub none_left : (target : Option Target) (text : Option ℕ) (c0 c : Checker) (so_far : Bool) (k : ℕ) (all left : List Entry) → IsSound c → left ≡ [] →
    AreLeft target text c0 c so_far k all left → WalksEntries target text all c0 c so_far
none_left target text c0 c so_far k all left sound is were =
    record {
      walks = λ at_end env plain.
          let old = were at_end env plain in
          old.on c
          (subst (λ es. Walks at_end c c old.here (in_turn (map entry_adds es) old.here) (entries_in_turn (object_for c0.types target) text old.here k es)) (sym is)
          (no_walk at_end c old.here sound old.plain.is_in));
      typed = λ env plain.
          let old = were env env plain in
          sym (old.typed ∙ (ap (λ es. so_far && are_typed (entries_in_turn (object_for c0.types target) text old.here k es)) is ∙ and_true so_far));
    }

-- one entry: its designators, and then what it initialises
pub entry_walked : (target inner : Option Target) (text : Option ℕ) (k : ℕ) (e : Entry) (c0 c1 c2 : Checker) (x y : Bool) → WalksDesignators e.designators c0 c1 x →
    ((env : Env) → IsPlain c1 env → object_for c1.types inner ≡ entry_object env (object_for c0.types target) text k) → WalksInit inner e.init c1 c2 y →
    WalksEntry target text k e c0 c2 (x && y)
entry_walked target inner text k e c0 c1 c2 x y ds objects walks =
    record {
      walks = λ at_end env plain.
          let w = ds.walks at_end env plain in
          let a = designators_add env e.designators in
          let behind = extend env a in
          let plain1 = plain_behind at_end c0 c1 env a (designator_parts env e.designators) plain w in
          then_walks at_end c0 c1 c2 env a (init_adds e.init behind) (designator_parts env e.designators) (at behind (AnInitialiser (entry_object behind (object_for c0.types target) text k) e.init) ∷ []) w
          (subst (λ o. Walks at_end c1 c2 behind (init_adds e.init behind) (at behind (AnInitialiser o e.init) ∷ [])) (objects behind plain1) (walks.walks at_end behind plain1));
      typed = λ env plain.
          let w = ds.walks env env plain in
          let a = designators_add env e.designators in
          let behind = extend env a in
          let plain1 = plain_behind env c0 c1 env a (designator_parts env e.designators) plain w in
          let one = at behind (AnInitialiser (entry_object behind (object_for c0.types target) text k) e.init) ∷ [] in
          ap (λ b. b && y) (ds.typed env plain) ∙
          (ap (λ b. are_typed (designator_parts env e.designators) && b) (subst (λ o. y ≡ has_type behind (AnInitialiser o e.init)) (objects behind plain1) (walks.typed behind plain1)) ∙
          (ap (λ b. are_typed (designator_parts env e.designators) && b) (sym (and_true (has_type behind (AnInitialiser (entry_object behind (object_for c0.types target) text k) e.init)))) ∙
          sym (typed_both (designator_parts env e.designators) one)));
    }

pub target_known : (old new : Checker) → IsSound old → IsLonger old.types new.types → (target : Option Target) → IsKnownTarget old.types target → IsKnownTarget new.types target
target_known old new sound longer None known = known
target_known old new sound longer (Some t) known = known_same old.types new.types sound.ready.table_is longer t.ty known
