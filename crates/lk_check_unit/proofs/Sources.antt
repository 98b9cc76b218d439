-- External declarations, one after the other, and the whole source.
use Rattle.std.proofs.Common.{◌≡◌, ◌∙◌, ◌++◌, ◌↔◌, true, false, List, [], ◌∷◌, refl, sym, ap, subst, append_assoc}
use Rattle.std.proofs.lemmas.List.{append-nil}
use Rattle.lk_tree.specs.declared.declaration.Declare.{Declare}
use Rattle.lk_tree.specs.declared.statement.Decl.{Decl}
use Rattle.lk_tree.specs.declared.statement.Decl.TheVariants as decl
use Rattle.lk_tree.specs.declared.statement.Empty.{Empty}
use Rattle.lk_tree.specs.declared.statement.Function.{Function}
use Rattle.lk_typed.specs.Env.{Env, Additions, extend}
use Rattle.lk_typed.specs.NodeParts.{behind_all, external_adds, external_part, externals_in_turn}
use Rattle.lk_typed.specs.NodeRules.{breaches, mark_of}
use Rattle.lk_typed.specs.Nodes.{AnExternal, Placed, at}
use Rattle.lk_rules.proofs.Kept.{none_broken}
use Rattle.lk_rules.specs.Keeping.{IsBroken}
use Rattle.lk_check_decl.specs.declared.words.Scope.TheVariants.{File}
use Rattle.lk_found.proofs.Environments.{extend_both}
use Rattle.lk_found.specs.Keepings.{Codes, KeepsAll, codes_at}
use Rattle.lk_checker.specs.States.{IsSound, kept_in}
use Rattle.lk_checker.specs.declared.checker.Checker.{Checker}
use Rattle.lk_check_walk.proofs.Truth.{truth_of_node}
use Rattle.lk_check_walk.specs.Walks.{Walks}
use Rattle.lk_check_unit.specs.Bodies.{Grows, IsPlain}
use Rattle.lk_check_unit.specs.Definitions.{WalksDefinition}
use Rattle.lk_check_unit.specs.InitDeclarators.{PutsPending, WalksNode}
use Rattle.lk_check_unit.specs.Later.{WalksBut, pending_codes}
use Rattle.lk_check_unit.specs.Sources.{WalksExternal, WalksExternals, externals_add}
use Rattle.lk_check_unit.specs.declared.pending.Pending.{Pending}
use Rattle.lk_check_unit.proofs.Declares.{but_none, but_then, false_true, known_both, known_pendings, pending_both}
use Rattle.lk_check_unit.proofs.Later.{no_codes, node_closed, nodes_first}
use Rattle.lk_check_unit.proofs.Naming.{pendings_stay}
use Rattle.lk_check_unit.proofs.Walking.{extends_by_nothing}

-- ---- one

-- nothing is asked of an external declaration itself
none_asked : (at_end env : Env) (d : Decl) → breaches at_end env (AnExternal d) ≡ []
none_asked at_end env (decl.Function node) = refl
none_asked at_end env (decl.Declare node) = refl
none_asked at_end env (decl.Empty node) = refl

none_hidden : (at_end : Env) → ((false ≡ true) ↔ IsBroken at_end [])
none_hidden at_end = ((λ e. absurd (false_true e)), λ broken. absurd (none_broken at_end broken))

-- its parts are walked
external_by : (at_end env : Env) (old new : Checker) (d : Decl) (later : List Codes) → WalksBut at_end old new env (external_adds env d) (external_part env d) later →
    WalksBut at_end old new env (external_adds env d) (at env (AnExternal d) ∷ []) later
external_by at_end env old new d later w =
    record {
      longer = w.longer;
      sound = w.sound;
      outside = w.outside;
      begun = w.begun;
      behind = w.behind;
      keeps = λ others more last kept.
          node_closed at_end env (AnExternal d) false (none_hidden at_end) (kept_in old) last others more
          (subst (λ bs. KeepsAll at_end (kept_in old) (external_part env d ++ others) (codes_at (mark_of (AnExternal d)) bs ∷ more) last) (sym (none_asked at_end env d))
          (no_codes at_end (kept_in old) last (external_part env d ++ others) (mark_of (AnExternal d)) more (w.keeps others more last kept)));
      records = truth_of_node at_end old new env (AnExternal d) refl w.records;
    }

abbrev nothing_waits : (checker : Checker) (before : List Pending) → PutsPending checker.types File before before
nothing_waits checker before = record { fresh = []; are = sym (append-nil before); known = tt; none = λ block. refl }

-- all codes are kept at once
all_at_once : (at_end env : Env) (old new : Checker) (added : Additions) (nodes : List Placed) → Walks at_end old new env added nodes → WalksBut at_end old new env added nodes []
all_at_once at_end env old new added nodes w =
    record {
      longer = w.longer;
      sound = w.sound;
      outside = w.outside;
      begun = w.begun;
      behind = w.behind;
      keeps = λ others more last kept. nodes_first at_end (kept_in old) (kept_in new) last nodes others more w.keeps kept;
      records = w.records;
    }

pub function_walked : (old new : Checker) (node : Function) (before : List Pending) → WalksDefinition node old new → WalksExternal old new (decl.Function node) before before
function_walked old new node before walks =
    record {
      puts = nothing_waits new before;
      walks = λ at_end env plain.
          external_by at_end env old new (decl.Function node) []
          (all_at_once at_end env old new (external_adds env (decl.Function node)) (external_part env (decl.Function node)) (walks at_end env plain));
    }

pub declaration_walked : (old new : Checker) (node : Declare) (before after : List Pending) → WalksNode old new File node before after → WalksExternal old new (decl.Declare node) before after
declaration_walked old new node before after walks =
    record {
      puts = walks.puts;
      walks = λ at_end env plain. external_by at_end env old new (decl.Declare node) (pending_codes new.types at_end walks.puts.fresh) (walks.walks at_end env plain);
    }

pub empty_walked : (checker : Checker) (node : Empty) (before : List Pending) → IsSound checker → WalksExternal checker checker (decl.Empty node) before before
empty_walked checker node before sound =
    record {
      puts = nothing_waits checker before;
      walks = λ at_end env plain. external_by at_end env checker checker (decl.Empty node) [] (but_none at_end checker env sound plain.is_in);
    }

-- ---- all

-- those that are left are walked behind those before them
pub record ExternalsLeft (at_end env : Env) (c0 c : Checker) (fresh : List Pending) (all left : List Decl) : Type 0 where
  pub here : Env
  pub plain : IsPlain c here
  pub on : (new : Checker) (cs : List Codes) → WalksBut at_end c new here (externals_add here left) (externals_in_turn here left) cs →
      WalksBut at_end c0 new env (externals_add env all) (externals_in_turn env all) (pending_codes c.types at_end fresh ++ cs)

pub record AreLeft (c0 c : Checker) (before now : List Pending) (all left : List Decl) : Type 0 where
  pub puts : PutsPending c.types File before now
  pub rest : (at_end env : Env) → IsPlain c0 env → ExternalsLeft at_end env c0 c puts.fresh all left

pub all_left : (c : Checker) (before : List Pending) (all : List Decl) → AreLeft c c before before all all
all_left c before all =
    record {
      puts = nothing_waits c before;
      rest = λ at_end env plain. record { here = env; plain = plain; on = λ new cs walks. walks };
    }

pub one_less : (c0 c c1 : Checker) (before now after : List Pending) (all left rest : List Decl) (d : Decl) → IsSound c → Grows c c1 → left ≡ d ∷ rest → AreLeft c0 c before now all left →
    WalksExternal c c1 d now after → AreLeft c0 c1 before after all rest
one_less c0 c c1 before now after all left rest d sound grows is were one =
    record {
      puts = record {
        fresh = were.puts.fresh ++ one.puts.fresh;
        are = one.puts.are ∙ (ap (λ xs. xs ++ one.puts.fresh) were.puts.are ∙ append_assoc before were.puts.fresh one.puts.fresh);
        known = known_both c1.types were.puts.fresh one.puts.fresh (known_pendings c.types c1.types sound.ready.table_is grows.longer were.puts.fresh were.puts.known) one.puts.known;
        none = λ block. ap (λ xs. xs ++ one.puts.fresh) (were.puts.none block) ∙ one.puts.none block;
      };
      rest = λ at_end env plain.
          let old = were.rest at_end env plain in
          let here = old.here in
          let w = one.walks at_end here old.plain in
          let there = extend here (external_adds here d) in
          let mine = pending_codes c1.types at_end one.puts.fresh in
          record {
            here = there;
            plain = record { is_in = w.behind; role = old.plain.role; in_size = old.plain.in_size };
            on = λ new cs more.
                subst (λ ds. WalksBut at_end c0 new env (externals_add env all) (externals_in_turn env all) ds)
                (sym (append_assoc (pending_codes c.types at_end were.puts.fresh) mine cs) ∙
                ap (λ ds. ds ++ cs) (ap (λ ds. ds ++ mine) (sym (pendings_stay c.types c1.types sound.ready.table_is grows.longer at_end were.puts.fresh were.puts.known)) ∙
                sym (pending_both c1.types at_end were.puts.fresh one.puts.fresh)))
                (old.on new (mine ++ cs)
                (subst (λ ds. WalksBut at_end c new here (externals_add here ds) (externals_in_turn here ds) (mine ++ cs)) (sym is)
                (but_then at_end c c1 new here (external_adds here d) (externals_add there rest) (at here (AnExternal d) ∷ []) (externals_in_turn there rest) mine cs w more)));
          };
    }

pub none_left : (c0 c : Checker) (before now : List Pending) (all left : List Decl) → IsSound c → left ≡ [] → AreLeft c0 c before now all left → WalksExternals c0 c all before now
none_left c0 c before now all left sound is were =
    record {
      puts = were.puts;
      walks = λ at_end env plain.
          let old = were.rest at_end env plain in
          subst (λ cs. WalksBut at_end c0 c env (externals_add env all) (externals_in_turn env all) cs) (append-nil (pending_codes c.types at_end were.puts.fresh))
          (old.on c []
          (subst (λ ds. WalksBut at_end c c old.here (externals_add old.here ds) (externals_in_turn old.here ds) []) (sym is) (but_none at_end c old.here sound old.plain.is_in)));
    }

-- ---- the environment behind them all

pub behind_is : (env : Env) (ds : List Decl) → extend env (externals_add env ds) ≡ behind_all env ds
behind_is env [] = sym (extends_by_nothing env)
behind_is env (d ∷ ds) =
    let a = external_adds env d in
    sym (extend_both env a (externals_add (extend env a) ds)) ∙ behind_is (extend env a) ds
