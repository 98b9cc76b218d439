-- How counts of steps are raised, step by step.
use Rattle.std.proofs.Common.{arith, sym, subst, ◌∙◌, ◌≡◌, ◌<◌, ◌+◌, inl, inr, ℕ, suc, List, [], ◌∷◌, ◌++◌, get_or, refl}
use Rattle.lk_lower_unit.proofs.Steps.{Among, among, among_either, among_left, among_right, contained}
use Rattle.lk_lower_unit.specs.StepCounts.{CountsSteps, Raises}
use Rattle.lk_lower_unit.specs.declared.standing.StandingStep.{StandingStep}

-- of those that were counted
pub record Counted (xs : List StandingStep) (counts : List ℕ) : Type 0 where
  pub above : (x : StandingStep) → Among xs x → x.step.step < get_or counts x.step.node 0
  pub reached : (o k : ℕ) → suc k ≡ get_or counts o 0 → (x : StandingStep) × Among xs x × (x.step.node ≡ o) × (x.step.step ≡ k)

pub none_counted : Counted [] []
none_counted = record { above = λ x is. absurd is; reached = λ o k is. absurd (omega (arith, is)) }

module _ (xs : List StandingStep) (x : StandingStep) (old new : List ℕ) (before : Counted xs old) (raised : Raises old new x.step.node (x.step.step + 1)) where
  above_more : (y : StandingStep) → Among (xs ++ (x ∷ [])) y → y.step.step < get_or new y.step.node 0
  above_more y is = elim (among_either xs (x ∷ []) y is) [
    | inl there ↦ lower (before.above y there)
    | inr there ↦ elim there [
      | inl same ↦ subst (λ z. z.step.step < get_or new z.step.node 0) same (let t = raised.there in omega (arith, t))
      | inr not ↦ absurd not
    ]
  ]
    where
      lower : y.step.step < get_or old y.step.node 0 → y.step.step < get_or new y.step.node 0
      lower less = let k = raised.kept y.step.node in omega (arith, less, k)

  abbrev Reached : ℕ → ℕ → Type 0
  Reached o k = (y : StandingStep) × Among (xs ++ (x ∷ [])) y × (y.step.node ≡ o) × (y.step.step ≡ k)

  from_before : (o k : ℕ) → (y : StandingStep) × Among xs y × (y.step.node ≡ o) × (y.step.step ≡ k) → Reached o k
  from_before o k found = (found.0, among_left xs (x ∷ []) found.0 found.1, found.2, found.3)

  from_this : (o k : ℕ) → suc k ≡ get_or new o 0 → (o ≡ x.step.node) × (get_or new o 0 ≡ x.step.step + 1) → Reached o k
  from_this o k is here = (x, among_right xs (x ∷ []) x (inl refl), sym here.0, same)
    where
      same : x.step.step ≡ k
      same = let e = here.1 in omega (arith, is, e)

  reached_more : (o k : ℕ) → suc k ≡ get_or new o 0 → Reached o k
  reached_more o k is = elim (raised.only o) [
    | inl same ↦ from_before o k (before.reached o k (is ∙ same))
    | inr here ↦ from_this o k is here
  ]

  pub counted_more : Counted (xs ++ (x ∷ [])) new
  counted_more = record { above = above_more; reached = reached_more }

pub all_counted : (steps xs : List StandingStep) (counts : List ℕ) → xs ≡ steps → Counted xs counts → CountsSteps steps counts
all_counted steps xs counts same is = record {
  above = λ x there. is.above x (subst (λ ys. Among ys x) (sym same) (among steps x there));
  reached = λ o k e. let found = is.reached o k e in (found.0, contained steps found.0 (subst (λ ys. Among ys found.0) same found.1), found.2, found.3);
}
