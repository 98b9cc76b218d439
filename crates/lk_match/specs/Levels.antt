-- Where the loop stands that finds Level: what is found so far is sound, and at the end is
-- closed over its own summary edges.
use Rattle.std.specs.Prelude.{◌≡◌, ℕ, Bool, true, false, List}
use Rattle.lk_facts.specs.declared.edge.Edge.{Edge}
use Rattle.lk_facts.specs.PathRules.{Summary}
use Rattle.lk_facts.specs.Paths.{HasEdge, Level}
use Rattle.lk_match.specs.declared.summary.SummaryEdge.{SummaryEdge}
use Rattle.lk_sets.specs.Rows.{Rows, has}
use Rattle.lk_sets.specs.declared.spread.Arrow.{Arrow}

-- the arrow leads back along the summary edge, which ends at a label that isn't global
abbrev pub IsPassedOn : (ℕ → Bool) → SummaryEdge → Arrow → Type 0
IsPassedOn global s arrow = (global s.to ≡ false) × (record { from = s.to; into = s.from } ≡ arrow)

module _ (es : List Edge) (global : ℕ → Bool) where
  -- each pair stands in Level
  abbrev pub AreSound : Rows → Type 0
  AreSound r = (a b : ℕ) → has r a b ≡ true → Level (HasEdge es) global a b

  -- the ends of each summary edge stand together, and what stands with its end does with where it begins
  pub record AreClosed (r : Rows) : Type 0 where
    pub last : (a b : ℕ) → Summary (HasEdge es) global (λ x y. has r x y ≡ true) a b → has r a b ≡ true
    pub more : (a b c : ℕ) → Summary (HasEdge es) global (λ x y. has r x y ≡ true) a b → global b ≡ false →
        has r b c ≡ true → has r a c ≡ true
