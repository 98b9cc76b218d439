-- Walks one after another, and the walk of an expression behind those of its parts.
use Rattle.std.proofs.Common.{◌≡◌, ◌∙◌, ◌++◌, Bool, List, [], ◌∷◌, ℕ, map, refl, sym, ap, subst}
use Rattle.std.specs.Prelude.{slice_get}
use Rattle.lk_types.proofs.GrowLemmas.{longer_same, longer_then}
use Rattle.lk_tree.specs.declared.expression.Expr.{Expr}
use Rattle.lk_tree.specs.declared.expression.ExprForm.{out-ExprForm}
use Rattle.lk_typed.specs.Env.{Additions, Env, Role, both, extend, nothing}
use Rattle.lk_typed.specs.ExprRules.{additions_of, codes_at, judged, rule}
use Rattle.lk_typed.specs.Expressions.{at_pair, breach_at, expression, written}
use Rattle.lk_typed.specs.NodeParts.{parts}
use Rattle.lk_typed.specs.NodeRules.{breaches, mark}
use Rattle.lk_typed.specs.Nodes.{AnExpression, ATypeName, Placed, at}
use Rattle.lk_typed.specs.Typing.{Judged, codes_of}
use Rattle.lk_typed.specs.declared.unit.StructTag.{StructTag}
use Rattle.lk_names.specs.InScope.{InScope}
use Rattle.lk_rules.proofs.Asked.{expressions_are_asked}
use Rattle.lk_rules.proofs.Found.{expressions_follow_their_rules}
use Rattle.lk_rules.proofs.Kept.{codes_are_kept_behind_parts, nodes_are_kept_in_turn, nothing_is_kept}
use Rattle.lk_rules.specs.Keeping.{KeepsCodes, KeepsNodes}
use Rattle.lk_rules.specs.Laws.{name_found}
use Rattle.lk_found.specs.Truth.{NoTag}
use Rattle.lk_found.specs.Findings.{IsFound, JudgedForm, judged_of}
use Rattle.lk_found.specs.declared.found.Found.{Found}
use Rattle.lk_found.proofs.Environments.{extend_nothing, extend_both}
use Rattle.lk_found.proofs.Forms.{Layer, form_in}
use Rattle.lk_typed.specs.ExprRules as rules
use Rattle.lk_checker.specs.States.{IsIn, IsSound, Settles, kept_in}
use Rattle.lk_checker.specs.declared.checker.Checker.{Checker}
use Rattle.lk_checker.proofs.Growing.{in_longer}
use Rattle.lk_check_walk.specs.Walking.{IsFormJudged}
use Rattle.lk_check_walk.specs.Walks.{TellsTruth, Walks, WalksAndTells, WalksOwn}
use Rattle.lk_check_walk.proofs.Truth.{told_as, told_then, truth_same, truth_still}

-- what a node stands as doesn't matter to the state
pub in_any_role : (checker : Checker) (env : Env) (role : Role) (in_size : Bool) → IsIn checker env → IsIn checker (record env { role = role; in_size = in_size })
in_any_role checker env role in_size is = record { scope = ap (λ (e : Env). record e { role = role; in_size = in_size }) is.scope; defined = is.defined; externs = is.externs }

-- ---- walks

pub no_walk : (at_end : Env) (checker : Checker) (env : Env) → IsSound checker → IsIn checker env → Walks at_end checker checker env nothing []
no_walk at_end checker env sound is = record {
  longer = longer_same checker.types;
  sound = sound;
  outside = refl;
  begun = λ s begun. begun;
  behind = subst (IsIn checker) (sym (extend_nothing env)) is;
  keeps = nothing_is_kept at_end (kept_in checker);
  records = truth_same at_end checker checker refl;
}

-- of other structs
pub walks_as : (One Own : ℕ → StructTag → Type 0) (at_end : Env) (old new : Checker) (env : Env) (a : Additions) (ps : List Placed) → ((s : ℕ) (tag : StructTag) → One s tag → Own s tag) →
    WalksOwn One at_end old new env a ps ps → WalksOwn Own at_end old new env a ps ps
walks_as One Own at_end old new env a ps own_of f = record {
  longer = f.longer;
  sound = f.sound;
  outside = f.outside;
  begun = f.begun;
  behind = f.behind;
  keeps = f.keeps;
  records = told_as One Own at_end old new ps own_of f.records;
}

pub walks_then : (One Two Own : ℕ → StructTag → Type 0) (at_end : Env) (old middle new : Checker) (env : Env) (a b : Additions) (ps qs : List Placed) →
    ((s : ℕ) (tag : StructTag) → One s tag → Own s tag) → ((s : ℕ) (tag : StructTag) → Two s tag → Own s tag) → WalksOwn One at_end old middle env a ps ps →
    WalksOwn Two at_end middle new (extend env a) b qs qs → WalksOwn Own at_end old new env (both a b) (ps ++ qs) (ps ++ qs)
walks_then One Two Own at_end old middle new env a b ps qs of_one of_two f g = record {
  longer = longer_then old.types middle.types new.types f.longer g.longer;
  sound = g.sound;
  outside = g.outside ∙ f.outside;
  begun = λ s begun. g.begun s (f.begun s begun);
  behind = subst (IsIn new) (extend_both env a b) g.behind;
  keeps = nodes_are_kept_in_turn at_end (kept_in old) (kept_in middle) (kept_in new) ps qs f.keeps g.keeps;
  records = told_then One Two Own at_end old middle new ps qs f.sound.ready.table_is g.longer of_one of_two f.records g.records;
}

pub then_walks : (at_end : Env) (old middle new : Checker) (env : Env) (a b : Additions) (ps qs : List Placed) → Walks at_end old middle env a ps → Walks at_end middle new (extend env a) b qs →
    Walks at_end old new env (both a b) (ps ++ qs)
then_walks at_end old middle new env a b ps qs f g = walks_then NoTag NoTag NoTag at_end old middle new env a b ps qs (λ s tag never. never) (λ s tag never. never) f g

-- walks of a part that stands as something else
pub walks_in : (at_end : Env) (old new : Checker) (env : Env) (role : Role) (in_size : Bool) (a : Additions) (ps : List Placed) →
    Walks at_end old new (record env { role = role; in_size = in_size }) a ps → Walks at_end old new env a ps
walks_in at_end old new env role in_size a ps f = record {
  longer = f.longer;
  sound = f.sound;
  outside = f.outside;
  begun = f.begun;
  behind = in_any_role new (extend (record env { role = role; in_size = in_size }) a) env.role env.in_size f.behind;
  keeps = f.keeps;
  records = f.records;
}

abbrev pub parts_of_layer : Env → Layer → List Placed
parts_of_layer env layer = map at_pair (rules.parts AnExpression ATypeName expression name_found env layer)

abbrev behind_form : Env → JudgedForm → Env
behind_form env form = extend env (additions_of form)

pub judged_as : (at_end : Env) (old middle new : Checker) (e : Expr) (env : Env) (found : Found) (layer : Layer) → out-ExprForm e.form ≡ layer →
    Walks at_end old middle env (additions_of (form_in env layer)) (parts_of_layer env layer) →
    Settles middle new e env (behind_form env (form_in env layer)) (form_in env layer) found → IsFormJudged at_end old new env e found
judged_as at_end old middle new e env found layer is walks settles =
    let form = form_in env layer in
    let behind = behind_form env form in
    let same : expression e env ≡ judged_of env behind e.ordinal form = expressions_follow_their_rules e env ∙ ap (λ l. judged expression name_found env e.ordinal l) is in
    let codes : breaches at_end env (AnExpression e) ≡ map (breach_at (written e)) (codes_of (rule behind e.ordinal form)) =
    expressions_are_asked at_end env e ∙ ap (λ l. map (breach_at (written e)) (codes_at expression name_found env e.ordinal l)) is in
    let inner : KeepsNodes at_end (kept_in old) (parts at_end env (AnExpression e)) (kept_in middle) =
    subst (λ l. KeepsNodes at_end (kept_in old) (parts_of_layer env l) (kept_in middle)) (sym is) walks.keeps in
    let own = subst (λ cs. KeepsCodes (kept_in middle) (mark e.spot e.ordinal) cs (kept_in new)) (sym codes) settles.keeps in
    let all : WalksAndTells at_end old new env (additions_of form) (at env (AnExpression e) ∷ []) (parts at_end env (AnExpression e)) = record {
      longer = longer_then old.types middle.types new.types walks.longer settles.types;
      sound = settles.sound;
      outside = settles.outside ∙ walks.outside;
      begun = λ s begun. ap (λ (names : InScope). slice_get names.structs s) settles.names ∙ walks.begun s begun;
      behind = in_longer middle new behind walks.sound settles.types settles.names settles.outside walks.behind;
      keeps = codes_are_kept_behind_parts at_end env (AnExpression e) (kept_in old) (kept_in middle) (kept_in new) refl inner own;
      records = subst (λ l. TellsTruth at_end old new (parts_of_layer env l)) (sym is)
          (truth_still at_end old middle new (parts_of_layer env layer) walks.sound.ready.table_is settles.types settles.records walks.records);
    } in
    record {
      walks = subst (λ (x : Judged). WalksAndTells at_end old new env x.adds (at env (AnExpression e) ∷ []) (parts at_end env (AnExpression e))) (sym same) all;
      found = subst (IsFound new.types env found) (sym same) settles.found;
    }
