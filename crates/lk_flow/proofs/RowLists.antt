-- Rows whose edges are put one after the other.
use Rattle.std.proofs.Common.{◌≡◌, ℕ, suc, ◌+◌, ◌<◌, ◌≤◌, ◌⊎◌, List, get_or, length, Option, Some, None, inl, inr, sym, ap, ◌∙◌, subst, arith}
use Rattle.std.specs.Prelude.{min, slice_get}
use Rattle.std.specs.Option.{option_and_then, option_map}
use Rattle.std.proofs.lemmas.Bool.{cases_lt}
use Rattle.std.proofs.lemmas.Option.{none-some, same_Some, slice_get-get_or, slice_get_within}
use Rattle.lk_facts.specs.EdgeRules.{GivesBack, Of, Passes, Sub, parameter, value}
use Rattle.lk_facts.specs.LabelRules.{IsWhole}
use Rattle.lk_facts.specs.Program.{parameter_of, parameters_of, site_at}
use Rattle.lk_facts.specs.declared.edge.Edge.{Edge}
use Rattle.lk_facts.specs.declared.edge.Mark.{Mark}
use Rattle.lk_facts.specs.declared.edge.Mark.TheVariants.{Enter, Leave}
use Rattle.lk_facts.specs.declared.label_entry.LabelName.{LabelName}
use Rattle.lk_facts.specs.declared.program.Program.{Program}
use Rattle.lk_facts.specs.declared.root.Holder.{Holder}
use Rattle.lk_facts.specs.declared.root.Holder.TheVariants.{Point, Result}
use Rattle.lk_facts.specs.declared.function.Function.{Function}
use Rattle.lk_types.specs.declared.node.Sel.TheVariants.{Target}
use Rattle.lk_flow.specs.Growing.{Adds, Joins}
use Rattle.lk_flow.specs.Rows.{PassesAll, PassesTo}
use Rattle.lk_flow.proofs.Finders.{joins_as, joins_none, joins_two}

module _ (program : Program) (names : List LabelName) where
  -- the parameters of a function, in their order
  pub parameter_at : (f k : ℕ) (holders : List Holder) → parameters_of program f ≡ Some holders → parameter_of program f (suc k) ≡ slice_get holders k
  parameter_at f k holders are = of (slice_get program.functions f) are
    where
      of : (o : Option Function) → option_map (λ (function : Function). function.parameters) o ≡ Some holders → option_and_then (λ (function : Function). slice_get function.parameters k) o ≡ slice_get holders k
      of None is = absurd (none-some holders is)
      of (Some function) is = ap (λ hs. slice_get hs k) (same_Some function.parameters holders is)

  pub passes_none : (i f : ℕ) (args : List ℕ) (es : List Edge) → Adds (Joins names (PassesTo program i f args 0)) es es
  passes_none i f args es = joins_none names (PassesTo program i f args 0) es (λ u v m is. omega (arith, is.2))

  -- one more argument
  pub passes_more : (i f : ℕ) (args : List ℕ) (holders : List Holder) (k : ℕ) (a : ℕ) (h : Holder) (first old new : List Edge) → parameters_of program f ≡ Some holders → slice_get args k ≡ Some a → slice_get holders k ≡ Some h →
      Adds (Joins names (PassesTo program i f args k)) first old → Adds (Joins names (Sub program (Enter i) (IsWhole program (Point a)) (IsWhole program h))) old new → Adds (Joins names (PassesTo program i f args (k + 1))) first new
  passes_more i f args holders k a h first old new are a_at h_at before adds =
      joins_as names (λ u v m. PassesTo program i f args k u v m ⊎ Sub program (Enter i) (IsWhole program (Point a)) (IsWhole program h) u v m) (PassesTo program i f args (k + 1)) first new there back
      (joins_two names (PassesTo program i f args k) (Sub program (Enter i) (IsWhole program (Point a)) (IsWhole program h)) first old new before adds)
    where
      holds : parameter_of program f (suc k) ≡ Some h
      holds = parameter_at f k holders are ∙ h_at

      there : (u v : LabelName) (m : Mark) → PassesTo program i f args k u v m ⊎ Sub program (Enter i) (IsWhole program (Point a)) (IsWhole program h) u v m → PassesTo program i f args (k + 1) u v m
      there u v m (inl is) = (is.0, is.1, omega (arith, is.2), is.3, is.4)
      there u v m (inr sub) = (k, a, omega arith, a_at, (sub.0, sub.1, (sub.2.0, (h, holds, sub.2.1), sub.2.2)))

      back : (u v : LabelName) (m : Mark) → PassesTo program i f args (k + 1) u v m → PassesTo program i f args k u v m ⊎ Sub program (Enter i) (IsWhole program (Point a)) (IsWhole program h) u v m
      back u v m (j, b, less, b_at, sub) = elim (cases_lt j k) [
        | inl lower ↦ inl (j, b, lower, b_at, sub)
        | inr more ↦
            let level : j ≡ k = omega (arith, less, more) in
            let same : b ≡ a = same_Some b a (sym (subst (λ n. slice_get args n ≡ Some b) level b_at) ∙ a_at) in
            let holder = sub.2.1 in
            let one : holder.0 ≡ h = same_Some holder.0 h (sym (subst (λ n. parameter_of program f (suc n) ≡ Some holder.0) level holder.1) ∙ holds) in
            inr (sub.0, subst (λ x. Of program (IsWhole program (Point x)) Target u) same sub.1, (sub.2.0, subst (λ g. IsWhole program g sub.2.0) one holder.2, sub.2.2))
      ]

  -- all arguments: those past the parameters are joined with nothing
  pub passes_all : (i f : ℕ) (args : List ℕ) (holders : List Holder) (n : ℕ) (first new : List Edge) → parameters_of program f ≡ Some holders → (length args ≤ n) ⊎ (length holders ≤ n) → Adds (Joins names (PassesTo program i f args n)) first new → Adds (Joins names (PassesAll program i f args)) first new
  passes_all i f args holders n first new are end adds = joins_as names (PassesTo program i f args n) (PassesAll program i f args) first new (λ u v m is. (is.0, is.1, is.3, is.4)) back adds
    where
      back : (u v : LabelName) (m : Mark) → PassesAll program i f args u v m → PassesTo program i f args n u v m
      back u v m (k, a, at, sub) =
          let in_args = slice_get_within args k a at in
          let holder = sub.2.1 in
          let in_holders = slice_get_within holders k holder.0 (sym (parameter_at f k holders are) ∙ holder.1) in
          (k, a, elim end [ inl less ↦ omega (arith, less, in_args) | inr less ↦ omega (arith, less, in_holders) ], at, sub)

  -- the arguments at the site of a point
  pub passes_at : (p i g : ℕ) (args : List ℕ) (old new : List Edge) → Some i ≡ site_at program p → Adds (Joins names (PassesAll program i g args)) old new → Adds (Joins names (Passes program p g args)) old new
  passes_at p i g args old new is adds = joins_as names (PassesAll program i g args) (Passes program p g args) old new (λ u v m all. (i, all.0, all.1, sym is, all.2, all.3)) back adds
    where
      back : (u v : LabelName) (m : Mark) → Passes program p g args u v m → PassesAll program i g args u v m
      back u v m (j, k, a, at, a_at, sub) =
          let same : i ≡ j = same_Some i j (is ∙ at) in
          (k, a, a_at, subst (λ n. Sub program (Enter n) (value program a) (parameter program g (suc k)) u v m) (sym same) sub)

  pub no_passes : (p g : ℕ) (args : List ℕ) (es : List Edge) → None ≡ site_at program p → Adds (Joins names (Passes program p g args)) es es
  no_passes p g args es is = joins_none names (Passes program p g args) es (λ u v m all. none-some all.0 (is ∙ all.3))

  pub passes_next : (i f : ℕ) (args : List ℕ) (holders : List Holder) (k : ℕ) (a : ℕ) (h : Holder) (first old new : List Edge) → parameters_of program f ≡ Some holders → k < length args → k < length holders → Adds (Joins names (PassesTo program i f args k)) first old →
      Adds (Joins names (Sub program (Enter i) (IsWhole program (Point (get_or args k a))) (IsWhole program (get_or holders k h)))) old new → Adds (Joins names (PassesTo program i f args (k + 1))) first new
  passes_next i f args holders k a h first old new are in_args in_holders before adds =
      passes_more i f args holders k (get_or args k a) (get_or holders k h) first old new are (slice_get-get_or args k a in_args) (slice_get-get_or holders k h in_holders) before adds

  -- the arguments and the result of a call
  pub call_both : (p i g : ℕ) (args : List ℕ) (first mid new : List Edge) → Some i ≡ site_at program p → Adds (Joins names (PassesAll program i g args)) first mid → Adds (Joins names (Sub program (Leave i) (IsWhole program (Result g)) (IsWhole program (Point p)))) mid new →
      Adds (Joins names (λ u v m. Passes program p g args u v m ⊎ GivesBack program p g u v m)) first new
  call_both p i g args first mid new is one two =
      joins_two names (Passes program p g args) (GivesBack program p g) first mid new (passes_at p i g args first mid is one)
      (joins_as names (Sub program (Leave i) (IsWhole program (Result g)) (IsWhole program (Point p))) (GivesBack program p g) mid new (λ u v m sub. (i, sym is, sub))
      (λ u v m back. subst (λ n. Sub program (Leave n) (IsWhole program (Result g)) (IsWhole program (Point p)) u v m) (same_Some back.0 i (sym back.1 ∙ sym is)) back.2) two)

  pub no_call : (p g : ℕ) (args : List ℕ) (es : List Edge) → None ≡ site_at program p → Adds (Joins names (λ u v m. Passes program p g args u v m ⊎ GivesBack program p g u v m)) es es
  no_call p g args es is = joins_none names (λ u v m. Passes program p g args u v m ⊎ GivesBack program p g u v m) es (λ u v m either. elim either [
    | inl all ↦ none-some all.0 (is ∙ all.3)
    | inr back ↦ none-some back.0 (is ∙ back.1)
  ])

pub min_ends : (a b k : ℕ) → min a b ≤ k → (a ≤ k) ⊎ (b ≤ k)
min_ends a b k less = elim (cases_lt k a) [
  | inl below ↦ inr (omega (arith, less, below))
  | inr past ↦ inl past
]
