-- The lock places that locks can mean.
use Rattle.std.specs.Prelude.{◌≡◌, ◌<◌, ℕ, Bool, true, List, All}
use Rattle.lk_facts.specs.Basis.{Basis}
use Rattle.lk_facts.specs.Flow.{MeansOnly}
use Rattle.lk_facts.specs.Program.{IsLockPlace}
use Rattle.lk_rise.specs.declared.correlations.Correlation.{Correlation}
use Rattle.lk_sets.specs.Ids.{has_id}

-- the locks of all items are labels below this number
abbrev pub AreLocksBelow : ℕ → List (Correlation × List ℕ) → Type 0
AreLocksBelow labels = All (λ entry. All (λ x. x < labels) entry.1)

module _ (basis : Basis) (linear : ℕ → Bool) where
  -- q is a linear lock place, and the lock x can mean it alone
  pub record IsPlaceBy (x q : ℕ) : Type 0 where
    pub is_place : IsLockPlace basis.program q
    pub is_linear : linear q ≡ true
    pub means : MeansOnly basis.flow x q

  -- some lock of the list can mean q alone
  abbrev pub IsPlaceOf : List ℕ → ℕ → Type 0
  IsPlaceOf locks q = (x : ℕ) × (has_id locks x ≡ true) × IsPlaceBy x q
