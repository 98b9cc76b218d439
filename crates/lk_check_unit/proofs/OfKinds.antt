-- What an initialiser is that is one expression, as it is recorded.
use Rattle.std.proofs.Common.{◌≡◌, ◌∙◌, ℕ, Bool, [], ◌∷◌, Option, Some, refl, sym, ap, subst, nat_eq}
use Rattle.indexmap.specs.IndexMap.{insert_entry}
use Rattle.lk_tree.specs.declared.declaration.Init.{Init, out-Init}
use Rattle.lk_tree.specs.declared.declaration.Init.TheOpen.{Init-F}
use Rattle.lk_tree.specs.declared.expression.Expr.{Expr}
use Rattle.lk_types.specs.Table.{IsKnown}
use Rattle.lk_typed.proofs.Meanings.{meaning_stays}
use Rattle.lk_typed.specs.Env.{Env}
use Rattle.lk_typed.specs.Expressions.{expr_word}
use Rattle.lk_typed.specs.InitialiserRules.{Object}
use Rattle.lk_typed.specs.Nodes.{AnInitialiser, at}
use Rattle.lk_check_decl.specs.declared.initialisers.Target.{Target}
use Rattle.lk_found.specs.Recorded.{Recorded}
use Rattle.lk_found.specs.Findings.{IsOfInitialiser, IsOfKind}
use Rattle.lk_found.specs.declared.records.InitialiserKind.{InitialiserKind}
use Rattle.lk_found.specs.declared.records.InitialiserKind.TheVariants.{Value, Word}
use Rattle.lk_found.proofs.Entries.{adds_put}
use Rattle.lk_found.proofs.Lasting.{known_longer}
use Rattle.lk_checker.specs.States.{IsIn, IsSound}
use Rattle.lk_checker.specs.declared.checker.Checker.{Checker}
use Rattle.lk_check_walk.specs.Walks.{TellsTruth}
use Rattle.lk_check_walk.proofs.Recordings.{sound_recorded, walks_recorded, with_records}
use Rattle.lk_check_unit.specs.Bodies.{Grows}
use Rattle.lk_check_unit.specs.Initialising.{IsNoWord, IsWord, WalksExpr, object_for}

-- it is of this kind in each environment in which the state is
abbrev pub IsKindOf : Checker → Expr → InitialiserKind → Type 0
IsKindOf checker e kind = (env : Env) → IsIn checker env → IsOfKind checker.types kind (expr_word e env)

pub word_kind : (checker : Checker) (e : Expr) (t : ℕ) → IsKnown checker.types t → IsWord checker e t → IsKindOf checker e (Word t)
word_kind checker e t known is env is_in = (known, sym (is env is_in))

pub value_kind : (checker : Checker) (e : Expr) → IsNoWord checker e → IsKindOf checker e Value
value_kind checker e is env is_in = sym (is env is_in)

kind_stays : (old new : Checker) (e : Expr) (kind : InitialiserKind) (env : Env) → IsSound old → Grows old new → IsOfKind old.types kind (expr_word e env) → IsOfKind new.types kind (expr_word e env)
kind_stays old new e (Word t) env sound grows h =
    (known_longer old.types new.types t grows.longer h.0, h.1 ∙ ap Some (sym (meaning_stays old.types new.types sound.ready.table_is grows.longer t h.0)))
kind_stays old new e Value env sound grows h = h

abbrev with_kind : Checker → ℕ → InitialiserKind → Recorded
with_kind checker n kind = record checker.records { initialisers = insert_entry nat_eq checker.records.initialisers n kind }

kind_told : (at_end : Env) (old new : Checker) (env : Env) (object : Option Object) (init : Init) (e : Expr) (kind : InitialiserKind) → out-Init init ≡ Init-F.Expr e →
    IsOfKind new.types kind (expr_word e env) → TellsTruth at_end old new (at env (AnInitialiser object init) ∷ []) →
    TellsTruth at_end old (with_records new (with_kind new e.ordinal kind)) (at env (AnInitialiser object init) ∷ [])
kind_told at_end old new env object init e kind form is truth = record {
  founds = truth.founds;
  named = truth.named;
  meant = truth.meant;
  initialisers = adds_put at_end (IsOfInitialiser new.types) old.records.initialisers new.records.initialisers e.ordinal kind env (AnInitialiser object init)
      (record { object = object; init = init; is = refl; e = e; form = form; number = refl; kind_is = is }) truth.initialisers;
  uses = truth.uses;
  taken = truth.taken;
  declared = truth.declared;
  tags = truth.tags;
}

pub kind_recorded : (target : Option Target) (e : Expr) (old new : Checker) (r : Recorded) (kind : InitialiserKind) (answer : Bool) → IsSound old → Grows old new → IsKindOf old e kind →
    r ≡ with_kind new e.ordinal kind → WalksExpr target e old new answer → WalksExpr target e old (with_records new r) answer
kind_recorded target e old new r kind answer sound grows is same walks init form =
    let w = walks init form in
    let nodes = λ (env : Env). at env (AnInitialiser (object_for old.types target) init) ∷ [] in
    record {
      walks = λ at_end env plain.
          let walk = w.walks at_end env plain in
          walks_recorded at_end old new r env _ (nodes env) (nodes env) walk
          (subst (λ r. TellsTruth at_end old (with_records new r) (nodes env)) (sym same)
          (kind_told at_end old new env (object_for old.types target) init e kind form (kind_stays old new e kind env sound grows (is env plain.is_in)) walk.records));
      typed = w.typed;
    }

pub grows_recorded : (old new : Checker) (r : Recorded) → Grows old new → Grows old (with_records new r)
grows_recorded old new r grows = record { sound = sound_recorded new r grows.sound; longer = grows.longer }
