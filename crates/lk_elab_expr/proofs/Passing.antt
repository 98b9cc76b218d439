-- The arguments of a call are passed one after the other (C99 6.5.2.2, 7).
use Rattle.std.proofs.Common.{◌≡◌, ◌∙◌, ◌⊎◌, ◌+◌, ◌<◌, ◌≤◌, ◌++◌, inl, inr, ℕ, zero, suc, Bool, List, [], ◌∷◌, Option, Some, None, length, map, drop, get_or, refl, sym, ap, subst, arith, append_assoc}
use Rattle.std.specs.List.{slice_get}
use Rattle.std.proofs.lemmas.List.{append-nil, length-map}
use Rattle.std.proofs.lemmas.Option.{get_or_from_slice_get, slice_get_cases, slice_get_within}
use Rattle.lk_base.specs.declared.code.Code.{Code}
use Rattle.lk_tree.specs.declared.expression.DeclaratorForm.TheOpen.{ExprForm-F}
use Rattle.lk_tree.specs.declared.expression.Expr.{Expr}
use Rattle.lk_typed.specs.Elaborated.{InPlace, ArePassed, IsConverted}
use Rattle.lk_typed.specs.Elaborated.ArePassed.{no_arguments, to_parameter, null_for, routine, further}
use Rattle.lk_typed.specs.Env as env
use Rattle.lk_typed.specs.Env.{Env}
use Rattle.lk_typed.specs.Expressions.{at_pair, expression}
use Rattle.lk_typed.specs.Forms.{in_place, passes_of}
use Rattle.lk_typed.specs.Library as rows
use Rattle.lk_typed.specs.Meaning.{meaning_of}
use Rattle.lk_typed.specs.Nodes.{AnExpression}
use Rattle.lk_typed.specs.Stands.{IsIn}
use Rattle.lk_typed.specs.declared.expression.TypedExpr.{TypedExpr}
use Rattle.lk_typed.specs.declared.typed.ExprType.{ExprType}
use Rattle.lk_types.specs.Table.{Table}
use Rattle.lk_check_expr.specs.Arguments.{IsPassedAt}
use Rattle.lk_check_expr.specs.declared.library.Passing.{Passing}
use Rattle.lk_check_expr.specs.declared.library.Passing.TheVariants as passing
use Rattle.lk_found.proofs.Turns.{drop_next, drop_none}
use Rattle.lk_elaborator.specs.Converting.{ConvertedTo, Gives, IsGivenAs, StandsAnyhow}
use Rattle.lk_elaborator.specs.Known.{OfEach}
use Rattle.lk_elaborator.specs.Leading.{Grows}
use Rattle.lk_elaborator.specs.declared.elaborator.Elaborator.{Elaborator}
use Rattle.lk_elaborator.specs.declared.parts.Part.{Part}
use Rattle.lk_elaborator.proofs.Growing.{grows_same, grows_then, leads_before, told_on, true_on}
use Rattle.lk_elaborator.proofs.Knowing.{same_some, some_none}
use Rattle.lk_elab_expr.specs.PassedArguments.{ArePassedSoFar, IsFirst, IsPassedFor, IsToldCall, PassesAll, PassesAs, PassesFor, PromotedValue, PutsArgument, PutsPart, WantsNone, passes_to}
use Rattle.lk_elab_expr.specs.Walking.{IsToldOf}
use Rattle.lk_elab_expr.proofs.CalledWays.{same_passes}
use Rattle.lk_elab_expr.proofs.Roles.{argument_given}
use Rattle.lk_elab_expr.proofs.Within.{expression_at, told_by, told_of}

-- ---- elements of lists

pub drop_at : {A : Type 0} (xs : List A) (i : ℕ) (x : A) → slice_get xs i ≡ Some x → drop i xs ≡ x ∷ drop (i + 1) xs
drop_at xs i x there = drop_next xs i x (sym (get_or_from_slice_get xs i x x there)) (slice_get_within xs i x there)

pub none_past : {A : Type 0} (xs : List A) (i : ℕ) → slice_get xs i ≡ None → length xs ≤ i
none_past {A} xs i none = by (slice_get_cases xs i).1
  where
    by : (((x : A) × (i < length xs) × (slice_get xs i ≡ Some x) × (get_or xs i x ≡ x)) ⊎ ((length xs ≤ i) × (slice_get xs i ≡ None))) → length xs ≤ i
    by (inl there) = absurd (some_none (sym none ∙ there.2))
    by (inr past) = past.0

first_by : (passes : List rows.Passing) (i : ℕ) (o : Option rows.Passing) → slice_get passes i ≡ o → IsFirst o (drop i passes) (drop (i + 1) passes)
first_by passes i None none = let past = none_past passes i none in (drop_none passes i past, drop_none passes (i + 1) (omega (arith, past)))
first_by passes i (Some pass) there = drop_at passes i pass there

-- the expression with an index, in its place
pub placed_at : (ps : List InPlace) (es : List Expr) (i : ℕ) (e : Expr) → map (λ (a : InPlace). a.1) ps ≡ es → slice_get es i ≡ Some e → (q : InPlace) × (slice_get ps i ≡ Some q) × (q.1 ≡ e)
placed_at [] es i e are at = absurd (some_none (ap (λ es. slice_get es i) are ∙ at))
placed_at (p ∷ ps) es zero e are at = (p, refl, same_some (ap (λ es. slice_get es 0) are ∙ at))
placed_at (p ∷ ps) es (suc i) e are at = placed_at ps (map (λ (a : InPlace). a.1) ps) i e refl (ap (λ es. slice_get es (suc i)) are ∙ at)

among : (ps : List InPlace) (i : ℕ) (q : InPlace) → slice_get ps i ≡ Some q → IsIn (expression_at q) (map at_pair (map (in_place AnExpression) ps))
among [] i q at = absurd (some_none at)
among (p ∷ ps) zero q at = inl (ap expression_at (sym (same_some at)))
among (p ∷ ps) (suc i) q at = inr (among ps i q at)

module _ (at_end : Env) (walk : Elaborator) (p f : InPlace) (ps : List InPlace) (es : List Expr) (call : IsToldCall at_end walk p f ps es) where
  pub told_function : IsToldOf at_end walk f
  told_function = told_by at_end walk p call.told (ExprForm-F.Call f ps) (expression_at f) call.form (inl refl)

  pub told_argument : (i : ℕ) (q : InPlace) → slice_get ps i ≡ Some q → IsToldOf at_end walk q
  told_argument i q at = told_by at_end walk p call.told (ExprForm-F.Call f ps) (expression_at q) call.form (inr (among ps i q at))

pub call_on : (old new : Elaborator) → Grows old new → (at_end : Env) (p f : InPlace) (ps : List InPlace) (es : List Expr) → IsToldCall at_end old p f ps es → IsToldCall at_end new p f ps es
call_on old new grows at_end p f ps es call = record { form = call.form; are = call.are; told = told_on old new grows at_end p.0 (AnExpression p.1) call.told }

-- ---- the ways of passing

nothing_at : (table : Table) (pass : Option Passing) (o : Option rows.Passing) → pass ≡ None → IsPassedAt table pass o → o ≡ None
nothing_at table None None none is = refl
nothing_at table None (Some by) none is = absurd is
nothing_at table (Some pass) o none is = absurd (some_none (sym none))

pub wants_none : (table : Table) (f : InPlace) (index : ℕ) (pass : Option Passing) → pass ≡ None → IsPassedFor table f index pass → WantsNone f index
wants_none table f index pass none is = record {
  typing = is.typing;
  found = is.found;
  none = ap (λ o. slice_get (passes_of (expression f.1 f.0) o) index) is.found ∙ nothing_at table pass _ none is.is;
}

module _ (old new : Elaborator) (n : ℕ) where
  pub as_converted : (t : ExprType) (part : Part) → Gives old new n part (ConvertedTo (meaning_of old.types t)) → IsGivenAs old new t part → PassesAs old new (Some (passing.Converted t)) n (Some part)
  as_converted t part gives given None is = absurd is
  as_converted t part gives given (Some (rows.Converted u)) is = λ p same true_of stands tables leads folded. record {
    role = given p.0.role true_of.ready (stands ∙ ap env.ConvertedTo (sym is.1));
    gives = λ nodes made passes others first ps rest passed.
        subst (λ passes. ArePassed tables folded passes (p ∷ ps) (nodes ++ rest)) (sym first)
        (subst (λ nodes. ArePassed tables folded (rows.Converted u ∷ others) (p ∷ ps) (nodes ++ rest)) (sym made.1)
        (to_parameter (subst (λ t. IsConverted tables folded p t made.0) is.1 (gives p same true_of tables leads folded made.0 made.2)) passed));
  }
  as_converted t part gives given (Some (rows.NullFor u code)) is = absurd is
  as_converted t part gives given (Some rows.Routine) is = absurd is
  as_converted t part gives given (Some rows.Size) is = absurd is

  as_null : (code : Code) → PassesAs old new (Some (passing.NullFor code)) n None
  as_null code None is = absurd is
  as_null code (Some (rows.Converted u)) is = absurd is
  as_null code (Some (rows.NullFor u other)) is = λ p same true_of stands tables leads folded. record {
    role = tt;
    gives = λ nodes none passes others first ps rest passed.
        subst (λ passes. ArePassed tables folded passes (p ∷ ps) (nodes ++ rest)) (sym first)
        (subst (λ nodes. ArePassed tables folded (rows.NullFor u other ∷ others) (p ∷ ps) (nodes ++ rest)) (sym none) (null_for passed));
  }
  as_null code (Some rows.Routine) is = absurd is
  as_null code (Some rows.Size) is = absurd is

  as_routine : PassesAs old new (Some passing.Routine) n None
  as_routine None is = absurd is
  as_routine (Some (rows.Converted u)) is = absurd is
  as_routine (Some (rows.NullFor u other)) is = absurd is
  as_routine (Some rows.Routine) is = λ p same true_of stands tables leads folded. record {
    role = tt;
    gives = λ nodes none passes others first ps rest passed.
        subst (λ passes. ArePassed tables folded passes (p ∷ ps) (nodes ++ rest)) (sym first)
        (subst (λ nodes. ArePassed tables folded (rows.Routine ∷ others) (p ∷ ps) (nodes ++ rest)) (sym none) (routine passed));
  }
  as_routine (Some rows.Size) is = absurd is

  pub as_nothing : (pass : Passing) → ((code : Code) × (pass ≡ passing.NullFor code)) ⊎ (pass ≡ passing.Routine) → PassesAs old new (Some pass) n None
  as_nothing pass (inl is) = subst (λ pass. PassesAs old new (Some pass) n None) (sym is.1) (as_null is.0)
  as_nothing pass (inr is) = subst (λ pass. PassesAs old new (Some pass) n None) (sym is) as_routine

  pub as_further : (part : Part) → Gives old new n part PromotedValue → StandsAnyhow part → PassesAs old new None n (Some part)
  as_further part gives anyhow None is = λ p same true_of stands tables leads folded. record {
    role = anyhow new.types p.0.role;
    gives = λ nodes made passes others first ps rest passed.
        let typed = gives p same true_of tables leads folded made.0 made.2 in
        subst (λ passes. ArePassed tables folded passes (p ∷ ps) (nodes ++ rest)) (sym first.0)
        (subst (λ nodes. ArePassed tables folded [] (p ∷ ps) (nodes ++ rest)) (sym made.1)
        (further typed.1 typed.2 (subst (λ others. ArePassed tables folded others ps rest) first.1 passed)));
  }
  as_further part gives anyhow (Some pass) is = absurd is

-- ---- one argument more

pub put_more : (old middle new : Elaborator) (n index : ℕ) (e : Expr) (part : Option Part) (folded : Bool) (before behind : List TypedExpr) → Grows old middle → PassesFor old middle n index e.ordinal part →
    Grows middle new → PutsPart middle new e part folded before behind → PutsArgument old new n index e folded before behind
put_more old middle new n index e None folded before behind first passes second puts = record {
  given = [];
  put = puts ∙ sym (append-nil before);
  passes = λ at_end f p same_f same_p true_f told stands tables leads.
      (passes f p same_f (ap (λ (e : Expr). e.ordinal) same_p) true_f (told_of at_end old p told) stands tables (leads_before middle new tables second leads) folded).gives [] refl;
}
put_more old middle new n index e (Some part) folded before behind first passes second puts = record {
  given = puts.0 ∷ [];
  put = puts.1;
  passes = λ at_end f p same_f same_p true_f told stands tables leads.
      let by = passes f p same_f (ap (λ (e : Expr). e.ordinal) same_p) true_f (told_of at_end old p told) stands tables (leads_before middle new tables second leads) folded in
      by.gives (puts.0 ∷ []) (puts.0, refl, puts.2 at_end p same_p (told_on old middle first at_end p.0 (AnExpression p.1) told) by.role tables leads);
}

-- ---- all arguments

module _ (old : Elaborator) (n : ℕ) (es : List Expr) (folded : Bool) where
  pub none_passed : (out : List TypedExpr) → out ≡ [] → ArePassedSoFar old old n es folded 0 out
  none_passed out none = record {
    grows = grows_same old;
    passed = λ at_end p f ps call same tables leads rest passed. subst (λ out. ArePassed tables folded (passes_to f) ps (out ++ rest)) (sym none) passed;
  }

  pub passed_more : (middle new : Elaborator) (i : ℕ) (e : Expr) (before behind : List TypedExpr) → ArePassedSoFar old middle n es folded i before → slice_get es i ≡ Some e → Grows middle new →
      PutsArgument middle new n i e folded before behind → ArePassedSoFar old new n es folded (i + 1) behind
  passed_more middle new i e before behind so_far there grows puts = record {
    grows = grows_then old middle new so_far.grows grows;
    passed = λ at_end p f ps call same tables leads rest passed.
        let at = placed_at ps es i e call.are there in
        let q = at.0 in
        let told_f = told_function at_end old p f ps es call in
        let told_q = told_argument at_end old p f ps es call i q at.1 in
        let one = puts.passes at_end f q same at.2 (true_on old middle so_far.grows f (told_of at_end old f told_f)) (told_on old middle so_far.grows at_end q.0 (AnExpression q.1) told_q)
        (argument_given p f ps call.form i q at.1) tables leads in
        let more : ArePassed tables folded (drop i (passes_to f)) (drop i ps) (puts.given ++ rest) =
        subst (λ qs. ArePassed tables folded (drop i (passes_to f)) qs (puts.given ++ rest)) (sym (drop_at ps i q at.1))
        (one (drop i (passes_to f)) (drop (i + 1) (passes_to f)) (first_by (passes_to f) i (slice_get (passes_to f) i) refl) (drop (i + 1) ps) rest passed) in
        subst (ArePassed tables folded (passes_to f) ps) (sym (ap (λ out. out ++ rest) puts.put ∙ append_assoc before puts.given rest))
        (so_far.passed at_end p f ps call same tables (leads_before middle new tables grows leads) (puts.given ++ rest) more);
  }

  pub all_passed : (new : Elaborator) (i : ℕ) (out : List TypedExpr) → ArePassedSoFar old new n es folded i out → length es ≤ i → OfEach new n (λ f. WantsNone f (length es)) →
      PassesAll old new n es folded out
  all_passed new i out so_far all none = λ at_end p f ps call same tables leads.
      let told_f = told_function at_end old p f ps es call in
      let wants = none f same (true_on old new so_far.grows f (told_of at_end old f told_f)) in
      let past = none_past (passes_to f) (length es) wants.none in
      let count : length ps ≡ length es = sym (length-map ps (λ (a : InPlace). a.1)) ∙ ap length call.are in
      let last : ArePassed tables folded (drop i (passes_to f)) (drop i ps) [] =
      subst (λ passes. ArePassed tables folded passes (drop i ps) []) (sym (drop_none (passes_to f) i (omega (arith, past, all))))
      (subst (λ qs. ArePassed tables folded [] qs []) (sym (drop_none ps i (omega (arith, count, all)))) no_arguments) in
      record {
        typing = wants.typing;
        found = wants.found;
        passed = subst (λ passes. ArePassed tables folded passes ps out) (sym (same_passes p.0 f))
            (subst (ArePassed tables folded (passes_to f) ps) (append-nil out) (so_far.passed at_end p f ps call same tables leads [] last));
      }
