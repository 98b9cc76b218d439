-- The order in which a program locks its mutexes.
use Rattle.std.specs.Prelude.{◌≡◌, ◌<◌, ◌+◌, ℕ, Bool, true}
use Rattle.lk_facts.specs.Basis.{Basis}
use Rattle.lk_facts.specs.Program.{IsLockPlace}
use Rattle.lk_facts.specs.Reach.{Plus}
use Rattle.lk_order.specs.Acquired.{Pair}

module _ (basis : Basis) (linear : ℕ → Bool) where
  -- Order: some thread may lock a mutex of the place r while it owns one of the place q
  pub record Precedes (q r : ℕ) : Type 0 where
    pub held : ℕ
    pub wanted : ℕ
    pub pair : Pair basis linear basis.program.main held wanted
    pub held_is : basis.flow.all held q ≡ true
    pub wanted_is : basis.flow.all wanted r ≡ true
    pub held_place : IsLockPlace basis.program q
    pub wanted_place : IsLockPlace basis.program r

  -- the place lies on a cycle: the order leads from it to itself by one pair or more
  abbrev pub LiesOnCycle : ℕ → Type 0
  LiesOnCycle q = Plus Precedes q q

  -- the rank of a place is 0 where none comes before it, else one more than the greatest
  -- rank of those that come before it
  pub record AreRanks (rank : ℕ → ℕ) : Type 0 where
    pub above : (q r : ℕ) → Precedes q r → rank q < rank r
    pub next : (r : ℕ) → 0 < rank r → (q : ℕ) × Precedes q r × (rank r ≡ rank q + 1)
