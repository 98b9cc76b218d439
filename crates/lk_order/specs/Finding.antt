-- The pairs of places of a program, as rows.
use Rattle.std.specs.Prelude.{◌≡◌, ◌↔◌, ◌⊎◌, ℕ, Bool, true, List, Contains, length}
use Rattle.lk_facts.specs.Basis.{Basis}
use Rattle.lk_facts.specs.Program.{IsLockPlace}
use Rattle.lk_order.specs.Order.{Precedes}
use Rattle.lk_order.specs.declared.pairing.Paired.{Paired}
use Rattle.lk_sets.specs.Ids.{has_id}
use Rattle.lk_sets.specs.Rows.{Rows, has}

-- pairs were put, just those that the property says
pub record Puts (P : ℕ → ℕ → Type 0) (old new : Rows) : Type 0 where
  pub size : new.size ≡ old.size
  pub pairs : (x y : ℕ) → (has new x y ≡ true) ↔ ((has old x y ≡ true) ⊎ P x y)

-- what some number of the list gives
abbrev pub IsGivenBy : (ℕ → ℕ → ℕ → Type 0) → List ℕ → ℕ → ℕ → Type 0
IsGivenBy Gives ids x y = (e : ℕ) × (has_id ids e ≡ true) × Gives e x y

module _ (basis : Basis) where
  -- they are these two places, and both are lock places
  pub record AreTwoLocks (q r x y : ℕ) : Type 0 where
    pub first : x ≡ q
    pub second : y ≡ r
    pub held_place : IsLockPlace basis.program q
    pub wanted_place : IsLockPlace basis.program r

  -- the labels of the pair may mean these two lock places
  pub record MayMean (pair : Paired) (q r : ℕ) : Type 0 where
    pub held : basis.flow.all pair.held q ≡ true
    pub wanted : basis.flow.all pair.wanted r ≡ true
    pub held_place : IsLockPlace basis.program q
    pub wanted_place : IsLockPlace basis.program r

  -- the pair is one of main
  abbrev pub MayMeanInMain : Paired → ℕ → ℕ → Type 0
  MayMeanInMain pair q r = (pair.function ≡ basis.program.main) × MayMean pair q r

  -- the rows have just the pairs of places that pairs of main in the list may mean
  pub record ArePlacesOf (pairs : List Paired) (rows : Rows) : Type 0 where
    pub size : rows.size ≡ length basis.program.places
    pub exact : (q r : ℕ) → (has rows q r ≡ true)
        ↔ ((pair : Paired) × Contains pairs pair × MayMeanInMain pair q r)

-- the rows have just the pairs of the order
pub record AreOrderRows (basis : Basis) (linear : ℕ → Bool) (rows : Rows) : Type 0 where
  pub size : rows.size ≡ length basis.program.places
  pub exact : (q r : ℕ) → (has rows q r ≡ true) ↔ Precedes basis linear q r
