-- Edges that are put number by number, and those of calls through pointers and of functions that are used as values.
use Rattle.std.proofs.Common.{◌≡◌, ℕ, suc, ◌+◌, ◌<◌, ◌⊎◌, List, get_or, length, Option, Some, None, inl, inr, sym, ◌∙◌, subst, arith}
use Rattle.std.specs.Prelude.{slice_get}
use Rattle.std.proofs.lemmas.Bool.{cases_lt}
use Rattle.std.proofs.lemmas.Option.{none-some, same_Some, slice_get-get_or}
use Rattle.lk_facts.specs.EdgeRules.{Of, PassesThrough, Sub, code, result, target, value}
use Rattle.lk_facts.specs.LabelRules.{IsPart, IsWhole}
use Rattle.lk_facts.specs.Program.{parameter_of, parameters_of, root_of_function, value_site_of}
use Rattle.lk_facts.specs.declared.edge.Edge.{Edge}
use Rattle.lk_facts.specs.declared.edge.Mark.{Mark}
use Rattle.lk_facts.specs.declared.edge.Mark.TheVariants.{Plain, Enter, Leave}
use Rattle.lk_facts.specs.declared.label_entry.LabelName.{LabelName}
use Rattle.lk_facts.specs.declared.program.Program.{Program}
use Rattle.lk_facts.specs.declared.root.Holder.{Holder}
use Rattle.lk_facts.specs.declared.root.Holder.TheVariants.{Root}
use Rattle.lk_types.specs.declared.node.Sel.TheVariants.{Field, Target}
use Rattle.lk_flow.specs.Counting.{AnyOf, ArgumentThrough, ParameterOf, UpTo, ValueAt}
use Rattle.lk_flow.specs.Finding.{Finds, FindsFrom}
use Rattle.lk_flow.specs.Growing.{Adds, Joins}
use Rattle.lk_flow.proofs.Finders.{finds_as, joins_as, joins_none, joins_two, through}
use Rattle.lk_flow.proofs.RowLists.{parameter_at}

module _ (names : List LabelName) where
  pub upto_none : (R : ℕ → LabelName → LabelName → Mark → Type 0) (es : List Edge) → Adds (Joins names (UpTo R 0)) es es
  upto_none R es = joins_none names (UpTo R 0) es (λ u v m is. omega (arith, is.1))

  pub upto_more : (R : ℕ → LabelName → LabelName → Mark → Type 0) (k : ℕ) (first old new : List Edge) → Adds (Joins names (UpTo R k)) first old → Adds (Joins names (R k)) old new → Adds (Joins names (UpTo R (k + 1))) first new
  upto_more R k first old new before adds =
      joins_as names (λ u v m. UpTo R k u v m ⊎ R k u v m) (UpTo R (k + 1)) first new there back (joins_two names (UpTo R k) (R k) first old new before adds)
    where
      there : (u v : LabelName) (m : Mark) → UpTo R k u v m ⊎ R k u v m → UpTo R (k + 1) u v m
      there u v m (inl is) = (is.0, omega (arith, is.1), is.2)
      there u v m (inr is) = (k, omega arith, is)

      back : (u v : LabelName) (m : Mark) → UpTo R (k + 1) u v m → UpTo R k u v m ⊎ R k u v m
      back u v m (j, less, is) = elim (cases_lt j k) [
        | inl lower ↦ inl (j, lower, is)
        | inr more ↦ (let level : j ≡ k = omega (arith, less, more) in inr (subst (λ n. R n u v m) level is))
      ]

  pub upto_all : (R : ℕ → LabelName → LabelName → Mark → Type 0) (n : ℕ) (first new : List Edge) → ((k : ℕ) (u v : LabelName) (m : Mark) → R k u v m → k < n) → Adds (Joins names (UpTo R n)) first new → Adds (Joins names (AnyOf R)) first new
  upto_all R n first new below adds = joins_as names (UpTo R n) (AnyOf R) first new (λ u v m is. (is.0, is.2)) (λ u v m is. (is.0, below is.0 u v m is.1, is.1)) adds

module _ (program : Program) (names : List LabelName) where
  -- what the field of a label points to
  pub found_behind : (X : LabelName → Type 0) (k : ℕ) (from found : Option ℕ) → Finds names X from → FindsFrom names (λ x. Of program (IsPart program x (Field k)) Target) from found → Finds names (Of program (Of program X (Field k)) Target) found
  found_behind X k from found at next =
      finds_as names (λ u. (x : LabelName) × X x × Of program (IsPart program x (Field k)) Target u) (Of program (Of program X (Field k)) Target) found
      (λ u is. (is.2.0, (is.0, is.1, is.2.1), is.2.2)) (λ u is. (is.1.0, is.1.1, (is.0, is.1.2, is.2)))
      (through names X (λ x. Of program (IsPart program x (Field k)) Target) from found at next)

  -- the place of a function
  pub found_code : (g r : ℕ) (found : Option ℕ) → root_of_function program g ≡ Some r → Finds names (IsWhole program (Root r)) found → Finds names (code program g) found
  found_code g r found is at =
      finds_as names (IsWhole program (Root r)) (code program g) found (λ x whole. (r, is, whole)) (λ x of. subst (λ q. IsWhole program (Root q) x) (same_Some of.0 r (sym of.1 ∙ is)) of.2) at

  -- the arguments of a call through a pointer
  pub through_more : (a : ℕ) (args : List ℕ) (k b : ℕ) (old new : List Edge) → slice_get args k ≡ Some b → Adds (Joins names (Sub program Plain (value program b) (Of program (target program a) (Field (suc k))))) old new → Adds (Joins names (ArgumentThrough program a args k)) old new
  through_more a args k b old new at adds =
      joins_as names (Sub program Plain (value program b) (Of program (target program a) (Field (suc k)))) (ArgumentThrough program a args k) old new (λ u v m is. (b, at, is))
      (λ u v m is. subst (λ x. Sub program Plain (value program x) (Of program (target program a) (Field (suc k))) u v m) (same_Some is.0 b (sym is.1 ∙ at)) is.2) adds

  pub through_all : (a : ℕ) (args : List ℕ) (old new : List Edge) → Adds (Joins names (AnyOf (ArgumentThrough program a args))) old new → Adds (Joins names (PassesThrough program a args)) old new
  through_all a args old new adds =
      joins_as names (AnyOf (ArgumentThrough program a args)) (PassesThrough program a args) old new (λ u v m is. (is.0, is.1.0, is.1.1, is.1.2)) (λ u v m is. (is.0, (is.1, is.2, is.3))) adds

  -- a parameter of a function that is used as a value
  parameter_put : (g i k : ℕ) (h : Holder) (old new : List Edge) → parameter_of program g (suc k) ≡ Some h → Adds (Joins names (Sub program (Enter i) (Of program (code program g) (Field (suc k))) (IsWhole program h))) old new → Adds (Joins names (ParameterOf program g i k)) old new
  parameter_put g i k h old new is adds =
      joins_as names (Sub program (Enter i) (Of program (code program g) (Field (suc k))) (IsWhole program h)) (ParameterOf program g i k) old new (λ u v m sub. (sub.0, sub.1, (sub.2.0, (h, is, sub.2.1), sub.2.2)))
      (λ u v m sub. (sub.0, sub.1, (sub.2.0, subst (λ at. IsWhole program at sub.2.0) (same_Some sub.2.1.0 h (sym sub.2.1.1 ∙ is)) sub.2.1.2, sub.2.2))) adds

  pub parameter_next : (g i k j : ℕ) (holders : List Holder) (d : Holder) (old new : List Edge) → parameters_of program g ≡ Some holders → k < length holders → j ≡ suc k →
      Adds (Joins names (Sub program (Enter i) (Of program (code program g) (Field j)) (IsWhole program (get_or holders k d)))) old new → Adds (Joins names (ParameterOf program g i k)) old new
  parameter_next g i k j holders d old new are within next adds =
      parameter_put g i k (get_or holders k d) old new (parameter_at program names g k holders are ∙ slice_get-get_or holders k d within)
      (subst (λ n. Adds (Joins names (Sub program (Enter i) (Of program (code program g) (Field n)) (IsWhole program (get_or holders k d)))) old new) next adds)

  pub value_some : (g i : ℕ) (first mid new : List Edge) → Some i ≡ value_site_of program g → Adds (Joins names (AnyOf (ParameterOf program g i))) first mid → Adds (Joins names (Sub program (Leave i) (result program g) (Of program (code program g) (Field 0)))) mid new → Adds (Joins names (ValueAt program g)) first new
  value_some g i first mid new is one two =
      joins_as names (λ u v m. AnyOf (ParameterOf program g i) u v m ⊎ Sub program (Leave i) (result program g) (Of program (code program g) (Field 0)) u v m) (ValueAt program g) first new (λ u v m either. (i, sym is, either)) back
      (joins_two names (AnyOf (ParameterOf program g i)) (Sub program (Leave i) (result program g) (Of program (code program g) (Field 0))) first mid new one two)
    where
      back : (u v : LabelName) (m : Mark) → ValueAt program g u v m → AnyOf (ParameterOf program g i) u v m ⊎ Sub program (Leave i) (result program g) (Of program (code program g) (Field 0)) u v m
      back u v m (j, at, either) =
          let same : j ≡ i = same_Some j i (sym at ∙ sym is) in
          subst (λ n. AnyOf (ParameterOf program g n) u v m ⊎ Sub program (Leave n) (result program g) (Of program (code program g) (Field 0)) u v m) same either

  pub value_none : (g : ℕ) (es : List Edge) → None ≡ value_site_of program g → Adds (Joins names (ValueAt program g)) es es
  value_none g es is = joins_none names (ValueAt program g) es (λ u v m value. none-some value.0 (is ∙ value.1))
