-- The items of a block, one after the other.
use Rattle.std.proofs.Common.{◌≡◌, List, [], ◌∷◌, refl, sym, subst}
use Rattle.lk_tree.specs.declared.statement.BlockItem.TheOpen.{BlockItem-F}
use Rattle.lk_tree.specs.declared.statement.BlockItem.{BlockItem, out-BlockItem}
use Rattle.lk_tree.specs.declared.declaration.Declare.{Declare}
use Rattle.lk_tree.specs.declared.statement.Stmt.{Stmt}
use Rattle.lk_tree.specs.declared.statement.StmtForm.{StmtForm}
use Rattle.lk_typed.specs.Env.{Env, extend, nothing}
use Rattle.lk_typed.specs.DeclarationRules.{InBlock}
use Rattle.lk_typed.specs.Declarations.{declaration_adds}
use Rattle.lk_typed.specs.Parts.{item_adds, item_around, item_part, items_in_turn}
use Rattle.lk_typed.specs.StatementRules.{Around}
use Rattle.lk_typed.specs.Statements.{around_behind}
use Rattle.lk_checker.specs.States.{IsSound}
use Rattle.lk_checker.specs.declared.checker.Checker.{Checker}
use Rattle.lk_check_walk.proofs.Walking.{no_walk}
use Rattle.lk_check_unit.specs.Bodies.{IsKnownResult, IsRound, Passes, WalksDeclaration, WalksItem, WalksItems}
use Rattle.lk_rules.specs.Statements.{item_told, items_told}
use Rattle.lk_check_unit.specs.declared.body.Body.{Body}
use Rattle.lk_check_unit.proofs.Arounds.{behind_only}
use Rattle.lk_check_unit.proofs.Passing.{passes_only, passes_then}
use Rattle.lk_check_unit.proofs.Standing.{round_behind}

-- the items that are left are walked behind those before them
pub record ItemsLeft (at_end : Env) (c0 c : Checker) (body : Body) (env : Env) (around : Around) (all left : List BlockItem) : Type 0 where
  pub here : Env
  pub next : Around
  pub round : IsRound c body here next
  pub on : (new : Checker) (behind : Body) → Passes at_end c new behind here next (items_told left here) (items_in_turn next here left) →
      Passes at_end c0 new behind env around (items_told all env) (items_in_turn around env all)

abbrev pub AreLeft : Checker → Checker → Body → Body → List BlockItem → List BlockItem → Type 0
AreLeft c0 c before body all left = (at_end env : Env) (around : Around) → IsRound c0 before env around → ItemsLeft at_end c0 c body env around all left

pub all_left : (c : Checker) (body : Body) (all : List BlockItem) → AreLeft c c body body all all
all_left c body all at_end env around round = record { here = env; next = around; round = round; on = λ new behind passes. passes }

pub same_adds : (f : BlockItem-F BlockItem StmtForm Stmt) (env : Env) → (item_told f env).additions ≡ item_adds f env
same_adds (BlockItem-F.Declare node) env = refl
same_adds (BlockItem-F.Stmt inner) env = refl

same_around : (f : BlockItem-F BlockItem StmtForm Stmt) (around : Around) (env : Env) → around_behind around (item_told f env) ≡ item_around around env f
same_around (BlockItem-F.Declare node) around env = sym (behind_only around (declaration_adds InBlock env node))
same_around (BlockItem-F.Stmt inner) around env = refl

pub one_less : (c0 c c1 : Checker) (before body behind : Body) (all left rest : List BlockItem) (i : BlockItem) → IsSound c → IsKnownResult c body → left ≡ i ∷ rest →
    AreLeft c0 c before body all left → WalksItem (out-BlockItem i) c c1 body behind → behind.returned ≡ body.returned → AreLeft c0 c1 before behind all rest
one_less c0 c c1 before body behind all left rest i sound known is were walks same at_end env around round =
    let old = were at_end env around round in
    let f = out-BlockItem i in
    let told = item_told f old.here in
    let p = walks at_end old.here old.next old.round in
    let here = extend old.here told.additions in
    let next = around_behind old.next told in
    record {
      here = here;
      next = next;
      round = round_behind at_end c c1 body behind old.here old.next next told.additions (item_part old.next old.here f ∷ []) sound known old.round p.walks same p.stands;
      on = λ new after passes.
          old.on new after
          (subst (λ items. Passes at_end c new after old.here old.next (items_told items old.here) (items_in_turn old.next old.here items)) (sym is)
          (subst (λ a. Passes at_end c new after old.here old.next (items_told (i ∷ rest) old.here) (item_part old.next old.here f ∷ items_in_turn (item_around old.next old.here f) (extend old.here a) rest)) (same_adds f old.here)
          (subst (λ a. Passes at_end c new after old.here old.next (items_told (i ∷ rest) old.here) (item_part old.next old.here f ∷ items_in_turn a here rest)) (same_around f old.next old.here)
          (passes_then at_end c c1 new behind after old.here old.next told (items_told rest here) (item_part old.next old.here f ∷ []) (items_in_turn next here rest) p passes))));
    }

pub none_left : (c0 c : Checker) (before body : Body) (all left : List BlockItem) → IsSound c → left ≡ [] → AreLeft c0 c before body all left → WalksItems all c0 c before body
none_left c0 c before body all left sound is were at_end env around round =
    let old = were at_end env around round in
    old.on c body
    (subst (λ items. Passes at_end c c body old.here old.next (items_told items old.here) (items_in_turn old.next old.here items)) (sym is)
    (passes_only at_end c c body old.here old.next nothing [] (no_walk at_end c old.here sound old.round.plain.is_in) old.round.stands))

pub item_declared : (node : Declare) (c0 c1 : Checker) (body : Body) → WalksDeclaration node c0 c1 → WalksItem (BlockItem-F.Declare node) c0 c1 body body
item_declared node c0 c1 body walks at_end env around round =
    passes_only at_end c0 c1 body env around (declaration_adds InBlock env node) (item_part around env (BlockItem-F.Declare node) ∷ []) (walks at_end env round.plain) round.stands
