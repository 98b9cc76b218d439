-- Walks one after the other, in scopes, and round nodes.
use Rattle.std.proofs.Common.{◌≡◌, ◌∙◌, false, List, [], ◌∷◌, Some, sym, ap, subst}
use Rattle.std.specs.HashSet.{contains_by}
use Rattle.std.specs.Prelude.{slice_get}
use Rattle.lk_types.specs.Building.{IsLonger}
use Rattle.lk_types.specs.Table.{Table}
use Rattle.lk_types.proofs.GrowLemmas.{longer_same}
use Rattle.lk_typed.specs.Elements.{HasFewElements}
use Rattle.lk_typed.specs.Env.{Env, Additions, both, enter, extend, is_name, is_one_of, nothing, past_scope}
use Rattle.lk_typed.specs.Meaning.{IsReady}
use Rattle.lk_typed.specs.NodeParts.{parts}
use Rattle.lk_typed.specs.NodeRules.{breaches, hiding, mark_of}
use Rattle.lk_typed.specs.Nodes.{Node, Placed, at}
use Rattle.lk_typed.specs.declared.members.Members.TheVariants.{Begun}
use Rattle.lk_names.specs.Growing as growing
use Rattle.lk_names.specs.Growing.{IsMarkOf}
use Rattle.lk_names.specs.InScope.{InScope, IsKnownScope, env_in}
use Rattle.lk_names.specs.declared.names.Mark.{Mark}
use Rattle.lk_rules.proofs.Kept.{codes_are_kept_behind_parts}
use Rattle.lk_rules.specs.Keeping.{KeepsCodes, KeepsNodes}
use Rattle.lk_found.proofs.Environments.{extend_nothing}
use Rattle.lk_found.proofs.Entries.{is_expression}
use Rattle.lk_found.specs.Structs.{AreListed}
use Rattle.lk_checker.specs.States.{IsIn, IsSound, kept_in, recorded_in}
use Rattle.lk_checker.specs.declared.checker.Checker.{Checker}
use Rattle.lk_check_walk.proofs.Gathers.{both_nothing}
use Rattle.lk_check_walk.proofs.Truth.{truth_behind, truth_of_node, truth_still}
use Rattle.lk_check_walk.specs.Walks.{Walks}
use Rattle.lk_check_unit.specs.Scoping.{Enters, Leaves}

-- ---- environments that are extended

pub extends_by_nothing : (env : Env) → env ≡ extend env nothing
extends_by_nothing env = sym (extend_nothing env)

pub nothing_behind : (x : Additions) → x ≡ both x nothing
nothing_behind x = sym (both_nothing x)

-- ---- states that are alike

pub is_in_as : (old new : Checker) (env : Env) → new.types ≡ old.types → new.names ≡ old.names → new.outside ≡ old.outside → IsIn old env → IsIn new env
is_in_as old new env types names outside old_in =
    record {
      scope = ap (λ t. env_in t env new.names) types ∙ (ap (λ n. env_in old.types env n) names ∙ old_in.scope);
      defined = λ name. subst (λ o. is_one_of env.outside.defined name ≡ contains_by (is_name name) o.defined) (sym outside) (old_in.defined name);
      externs = λ name. subst (λ o. is_one_of env.outside.externs name ≡ contains_by (is_name name) o.externs) (sym outside) (old_in.externs name);
    }

pub sound_as : (old new : Checker) → new.types ≡ old.types → new.names ≡ old.names → IsSound old → IsSound new
sound_as old new types names sound =
    record {
      ready = subst IsReady (sym types) sound.ready;
      few = subst HasFewElements (sym types) sound.few;
      scope = subst (λ t. IsKnownScope t new.names) (sym types) (subst (IsKnownScope old.types) (sym names) sound.scope);
      structs = subst (λ t. AreListed t new.names.structs) (sym types) (subst (λ (n : InScope). AreListed old.types n.structs) (sym names) sound.structs);
    }

-- ---- walks

module _ (at_end : Env) where
  -- nodes behind which nothing stands
  pub walks_end : (a b : Checker) (env : Env) (x : Additions) (ps : List Placed) → Walks at_end a b env x ps → Walks at_end a b env (both x nothing) ps
  walks_end a b env x ps walks = subst (λ y. Walks at_end a b env y ps) (nothing_behind x) walks

  -- the nodes in a node, and then its codes
  pub walks_told : (a b c : Checker) (env own : Env) (x : Additions) (node : Node) → is_expression node ≡ false → hiding at_end own node ≡ [] →
      Walks at_end a b env x (parts at_end own node) → c.types ≡ b.types → c.names ≡ b.names → c.outside ≡ b.outside → recorded_in c ≡ recorded_in b →
      KeepsCodes (kept_in b) (mark_of node) (breaches at_end own node) (kept_in c) → Walks at_end a c env x (at own node ∷ [])
  walks_told a b c env own x node other shown walks types names outside records keeps =
      record {
        longer = subst (IsLonger a.types) (sym types) walks.longer;
        sound = sound_as b c types names walks.sound;
        outside = outside ∙ walks.outside;
        behind = is_in_as b c (extend env x) types names outside walks.behind;
        begun = λ s is. subst (λ (n : InScope). slice_get n.structs s ≡ Some Begun) (sym names) (walks.begun s is);
        keeps = codes_are_kept_behind_parts at_end own node (kept_in a) (kept_in b) (kept_in c) shown walks.keeps keeps;
        records = truth_of_node at_end a c own node other
            (truth_still at_end a b c (parts at_end own node) walks.sound.ready.table_is (subst (IsLonger b.types) (sym types) (longer_same b.types)) records walks.records);
      }

  -- a walk in a scope of its own
  pub walks_scoped : (old entered inner new : Checker) (mark : Mark) (env : Env) (added : Additions) (nodes : List Placed) → IsIn old env →
      Enters old entered mark → Walks at_end entered inner (enter env) added nodes → Leaves inner new mark → Walks at_end old new env (past_scope added) nodes
  walks_scoped old entered inner new mark env added nodes is_in enters walks leaves =
      record {
        longer = subst (IsLonger old.types) (sym leaves.beside.types) (subst (λ t. IsLonger t inner.types) enters.beside.types walks.longer);
        sound = leaves.beside.sound walks.sound;
        outside = leaves.beside.outside ∙ (walks.outside ∙ enters.beside.outside);
        behind = leaves.left env added (enters.marks env is_in) walks.behind;
        begun = λ s is. subst (λ ms. slice_get ms s ≡ Some Begun) (sym leaves.beside.structs) (walks.begun s (subst (λ ms. slice_get ms s ≡ Some Begun) (sym enters.beside.structs) is));
        keeps = subst (KeepsNodes at_end (kept_in old) nodes) (sym leaves.beside.kept) (subst (λ k. KeepsNodes at_end k nodes (kept_in inner)) enters.beside.kept walks.keeps);
        records = truth_behind at_end old entered new nodes enters.beside.records
            (truth_still at_end entered inner new nodes walks.sound.ready.table_is (subst (IsLonger inner.types) (sym leaves.beside.types) (longer_same inner.types)) leaves.beside.records walks.records);
      }

-- ---- scopes

pub enters_by : (old new : Checker) (mark : Mark) → new.types ≡ old.types → new.outside ≡ old.outside → kept_in new ≡ kept_in old → recorded_in new ≡ recorded_in old →
    new.names.structs ≡ old.names.structs →
    growing.Enters old.names new.names → ((table : Table) (rest : Env) → IsMarkOf mark (env_in table rest old.names)) → ((table : Table) → IsKnownScope table old.names → IsKnownScope table new.names) →
    Enters old new mark
enters_by old new mark types outside kept records structs enters marks known =
    record {
      beside =
          record {
            types = types;
            outside = outside;
            kept = kept;
            records = records;
            structs = structs;
            sound = λ sound.
                record {
                  ready = subst IsReady (sym types) sound.ready;
                  few = subst HasFewElements (sym types) sound.few;
                  scope = subst (λ t. IsKnownScope t new.names) (sym types) (known old.types sound.scope);
                  structs = subst (λ t. AreListed t new.names.structs) (sym types) (subst (AreListed old.types) (sym structs) sound.structs);
                };
          };
      entered = λ env is_in.
          record {
            scope = ap (λ t. env_in t (enter env) new.names) types ∙ (enters old.types (enter env) ∙ ap enter is_in.scope);
            defined = λ name. subst (λ o. is_one_of env.outside.defined name ≡ contains_by (is_name name) o.defined) (sym outside) (is_in.defined name);
            externs = λ name. subst (λ o. is_one_of env.outside.externs name ≡ contains_by (is_name name) o.externs) (sym outside) (is_in.externs name);
          };
      marks = λ env is_in. subst (IsMarkOf mark) is_in.scope (marks old.types env);
    }

pub leaves_by : (old new : Checker) (mark : Mark) → new.types ≡ old.types → new.outside ≡ old.outside → kept_in new ≡ kept_in old → recorded_in new ≡ recorded_in old →
    new.names.structs ≡ old.names.structs →
    growing.Leaves mark old.names new.names → ((table : Table) → IsKnownScope table old.names → IsKnownScope table new.names) →
    Leaves old new mark
leaves_by old new mark types outside kept records structs leaves known =
    record {
      beside =
          record {
            types = types;
            outside = outside;
            kept = kept;
            records = records;
            structs = structs;
            sound = λ sound.
                record {
                  ready = subst IsReady (sym types) sound.ready;
                  few = subst HasFewElements (sym types) sound.few;
                  scope = subst (λ t. IsKnownScope t new.names) (sym types) (known old.types sound.scope);
                  structs = subst (λ t. AreListed t new.names.structs) (sym types) (subst (AreListed old.types) (sym structs) sound.structs);
                };
          };
      left = λ env added marks is_in.
          record {
            scope = ap (λ t. env_in t (extend env (past_scope added)) new.names) types ∙ leaves old.types (extend env (past_scope added)) env added marks is_in.scope;
            defined = λ name. subst (λ o. is_one_of env.outside.defined name ≡ contains_by (is_name name) o.defined) (sym outside) (is_in.defined name);
            externs = λ name. subst (λ o. is_one_of env.outside.externs name ≡ contains_by (is_name name) o.externs) (sym outside) (is_in.externs name);
          };
    }
