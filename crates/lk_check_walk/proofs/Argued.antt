-- The arguments of a call, one after the other.
use Rattle.std.proofs.Common.{◌≡◌, ◌∙◌, ◌++◌, ℕ, Bool, List, [], ◌∷◌, All, length, refl, sym, ap, subst}
use Rattle.std.specs.Prelude.{slice_get}
use Rattle.std.proofs.lemmas.List.{map-append}
use Rattle.std.proofs.lemmas.List.Elements.{All-nil}
use Rattle.lk_types.specs.Table.{Table}
use Rattle.lk_tree.specs.declared.expression.Expr.{Expr}
use Rattle.lk_typed.specs.Env.{Env, both, extend, nothing}
use Rattle.lk_typed.specs.Expressions.{expression}
use Rattle.lk_typed.specs.Forms.{found_at, placed_arguments}
use Rattle.lk_typed.specs.Library.{Passing}
use Rattle.lk_typed.specs.Nodes.{AnExpression, at}
use Rattle.lk_typed.specs.Typing.{Judged}
use Rattle.lk_typed.specs.Typings.{IsOperand}
use Rattle.lk_check_expr.specs.declared.calls.Argument.{Argument}
use Rattle.lk_found.specs.Arguments.{AreOperands, IsGiven, IsNothing, StandsAs, added_by, arguments_placed, as_given, found_of, nodes_of}
use Rattle.lk_found.specs.Judging.{HasOperand}
use Rattle.lk_found.specs.Findings.{IsFound}
use Rattle.lk_found.specs.declared.arguments.Given.{Given}
use Rattle.lk_found.specs.declared.found.Found.{Found}
use Rattle.lk_found.specs.declared.found.Stands.{Stands}
use Rattle.lk_found.proofs.Lasting.{found_elsewhere, found_longer}
use Rattle.lk_found.proofs.Argued.{added_last, given_longer, given_elsewhere, nothing_given, placed_last, in_place_of, given_is, nodes_last}
use Rattle.lk_typed.specs.Forms as forms
use Rattle.lk_checker.specs.Moves.{IsFurther}
use Rattle.lk_checker.specs.States.{IsIn, IsSound}
use Rattle.lk_checker.specs.declared.checker.Checker.{Checker}
use Rattle.lk_checker.proofs.GoingOn.{same_further, then_further}
use Rattle.lk_check_walk.specs.Arguments.{AreArgumentsJudged, JudgesArguments}
use Rattle.lk_check_walk.specs.Walking.{Judges}
use Rattle.lk_check_walk.specs.Walks.{Walks}
use Rattle.lk_check_walk.proofs.Further.{operand_further}
use Rattle.lk_check_walk.proofs.Walking.{in_any_role, no_walk, then_walks, walks_in}

-- ---- the walk

pub no_arguments : (at_end : Env) (checker : Checker) (env : Env) (f : Judged) (given : Given) → Walks at_end checker checker env nothing [] → IsGiven checker.types env given [] →
    AreArgumentsJudged at_end checker checker env f [] given
no_arguments at_end checker env f given walks is = record { walks = by_passes (forms.passes_of f f.typing); given = is_none (forms.passes_of f f.typing) }
  where
    by_passes : (ps : List Passing) → Walks at_end checker checker env (added_by (found_of (placed_arguments expression env ps []))) (nodes_of (placed_arguments expression env ps []))
    by_passes [] = walks
    by_passes (p ∷ ps) = walks

    is_none : (ps : List Passing) → IsGiven checker.types env given (found_of (placed_arguments expression env ps []))
    is_none [] = is
    is_none (p ∷ ps) = is

-- one in its environment `inner`, behind those of which this was found
pub record IsArgumentJudged (at_end : Env) (old new : Checker) (env inner : Env) (e : Expr) (ys : List Judged) (result : Given) : Type 0 where
  pub walks : Walks at_end old new env (expression e inner).adds (at inner (AnExpression e) ∷ [])
  pub given : IsGiven new.types env result (ys ++ expression e inner ∷ [])

abbrev pub JudgesArgument : Checker → Checker → Bool → Found → ℕ → Expr → Given → Given → Type 0
JudgesArgument old new in_size f index e before after =
    (at_end env : Env) (x : Judged) (ys : List Judged) → IsIn old env → in_size ≡ env.in_size → IsFound old.types env f x → IsGiven old.types env before ys →
    IsArgumentJudged at_end old new env (as_given (slice_get (forms.passes_of x x.typing) index) env) e ys after

-- one argument, by what it stands as
pub argument_judged : (old new : Checker) (f : Found) (in_size : Bool) (index : ℕ) (e : Expr) (before after : Given) (stands : Stands) (a : Found) → IsSound old →
    ((other env : Env) (x : Judged) → IsFound old.types other f x → in_size ≡ env.in_size → StandsAs old.types stands (as_given (slice_get (forms.passes_of x x.typing) index) env)) →
    Judges old new stands e a →
    ((table : Table) (env : Env) (ys : List Judged) (y : Judged) → IsGiven table env before ys → IsFound table env a y → IsGiven table env after (ys ++ y ∷ [])) →
    JudgesArgument old new in_size f index e before after
argument_judged old new f in_size index e before after stands a sound is_so judges more at_end env x ys is_in size found given =
    let o = slice_get (forms.passes_of x x.typing) index in
    let inner = as_given o env in
    let same = given_is o env in
    let y = expression e inner in
    let p = at inner (AnExpression e) in
    let so = is_so env env x found size in
    let inside : IsIn old inner = subst (IsIn old) (sym same) (in_any_role old env inner.role inner.in_size is_in) in
    let j = judges at_end inner (record { is_in = inside; role = so.role; in_size = so.in_size }) in
    let walk = walks_in at_end old new env inner.role inner.in_size y.adds (p ∷ []) (subst (λ inner. Walks at_end old new inner y.adds (p ∷ [])) same j.walks) in
    let there : IsFound new.types env a y = found_elsewhere new.types (in_place_of env inner) env a y refl (subst (λ inner. IsFound new.types inner a y) same j.found) in
    record { walks = walk; given = more new.types env ys y (given_longer old.types new.types env before ys sound.ready.table_is walk.longer given) there }

-- one more behind the others
pub argument_then : (at_end : Env) (old middle new : Checker) (env : Env) (f : Judged) (es : List Expr) (e : Expr) (given after : Given) → AreArgumentsJudged at_end old middle env f es given →
    IsArgumentJudged at_end middle new (extend env (added_by (found_of (arguments_placed env f es))))
    (as_given (slice_get (forms.passes_of f f.typing) (length es)) (extend env (added_by (found_of (arguments_placed env f es))))) e (found_of (arguments_placed env f es)) after →
    AreArgumentsJudged at_end old new env f (es ++ e ∷ []) after
argument_then at_end old middle new env f es e given after before judged =
    let ps = forms.passes_of f f.typing in
    let places = arguments_placed env f es in
    let ys = found_of places in
    let behind = extend env (added_by ys) in
    let inner = as_given (slice_get ps (length es)) behind in
    let y = expression e inner in
    let p = at inner (AnExpression e) in
    let last = then_walks at_end middle new new behind y.adds nothing (p ∷ []) [] judged.walks (no_walk at_end new (extend behind y.adds) judged.walks.sound judged.walks.behind) in
    let all = then_walks at_end old middle new env (added_by ys) (both y.adds nothing) (nodes_of places) (p ∷ []) before.walks last in
    let end = placed_last env ps es e in
    let found_end : found_of (places ++ (inner, e) ∷ []) ≡ ys ++ y ∷ [] = map-append (found_at expression) places ((inner, e) ∷ []) in
    record {
      walks =
          subst (λ pl. Walks at_end old new env (added_by (found_of pl)) (nodes_of pl)) (sym end)
          (subst (λ a. Walks at_end old new env a (nodes_of (places ++ (inner, e) ∷ []))) (sym (ap added_by found_end ∙ added_last ys y))
          (subst (λ ns. Walks at_end old new env (both (added_by ys) (both y.adds nothing)) ns) (sym (nodes_last places (inner, e))) all));
      given = subst (λ pl. IsGiven new.types env after (found_of pl)) (sym end)
          (subst (IsGiven new.types env after) (sym found_end) (given_elsewhere new.types behind env after (ys ++ y ∷ []) refl judged.given));
    }

-- ---- arguments so far, behind the function

pub record AreArgued (old now : Checker) (f : Found) (in_size : Bool) (es : List Expr) (given : Given) : Type 0 where
  pub judged : JudgesArguments old now in_size f es given
  pub further : IsFurther old now
  pub operand : HasOperand now.types f
  pub operands : AreOperands now.types given

pub none_argued : (checker : Checker) (f : Found) (in_size : Bool) (given : Given) → IsSound checker → HasOperand checker.types f → IsNothing given → AreArgued checker checker f in_size [] given
none_argued checker f in_size given sound operand none = record {
  judged = λ at_end env x is_in size found. no_arguments at_end checker env x given (no_walk at_end checker env sound is_in) (nothing_given checker.types env given none);
  further = same_further checker sound;
  operand = operand;
  operands = subst (λ list. All (λ (a : Argument). IsOperand checker.types a.typing) list) (sym none.arguments) (All-nil (λ (a : Argument). IsOperand checker.types a.typing));
}

pub argued_then : (old middle new : Checker) (f : Found) (in_size : Bool) (es : List Expr) (index : ℕ) (e : Expr) (given after : Given) → IsSound old → AreArgued old middle f in_size es given →
    length es ≡ index → JudgesArgument middle new in_size f index e given after → IsFurther middle new → (AreOperands middle.types given → AreOperands new.types after) →
    AreArgued old new f in_size (es ++ e ∷ []) after
argued_then old middle new f in_size es index e given after sound before long judges further operands = record {
  judged = λ at_end env x is_in size found.
      let places = arguments_placed env x es in
      let ys = found_of places in
      let behind = extend env (added_by ys) in
      let walked = before.judged at_end env x is_in size found in
      let seen = found_elsewhere middle.types env behind f x refl (found_longer old.types middle.types env f x sound.ready.table_is before.further.longer found) in
      argument_then at_end old middle new env x es e given after walked
      (subst (λ n. IsArgumentJudged at_end middle new behind (as_given (slice_get (forms.passes_of x x.typing) n) behind) e ys after) (sym long)
      (judges at_end behind x ys walked.walks.behind size seen (given_elsewhere middle.types env behind given ys refl walked.given)));
  further = then_further old middle new before.further further;
  operand = operand_further middle.types new.types f further.longer before.operand;
  operands = operands before.operands;
}
