-- Which mutexes a thread may own at each point, as far as it is known.
use Rattle.std.specs.Prelude.{◌≡◌, ◌⊎◌, ℕ, Bool, true, false, List}
use Rattle.lk_facts.specs.Basis.{Basis}
use Rattle.lk_facts.specs.Doing.{Runs}
use Rattle.lk_facts.specs.Flow.{Up}
use Rattle.lk_facts.specs.Program.{live_at}
use Rattle.lk_facts.specs.Reach.{IsLiveNext}
use Rattle.lk_facts.specs.declared.way.Way.{Way}
use Rattle.lk_held.specs.Releasing.{has_in}
use Rattle.lk_links.specs.declared.link.Link.{Link}
use Rattle.lk_order.specs.Acquired.{Drops, DropsIn}
use Rattle.lk_order.specs.Giving.{Gives, Has}
use Rattle.lk_order.specs.Growing.{AreSets}
use Rattle.lk_order.specs.Same.{Same}
use Rattle.lk_order.specs.declared.giving.By.TheVariants.{Exits}
use Rattle.lk_sets.specs.Ids.{has_id}

module _ (basis : Basis) (linear : ℕ → Bool) where
  -- y is one label outside, and that is the same as x in f
  pub record IsSameOver (f : ℕ) (way : Way) (x y : ℕ) : Type 0 where
    pub outside : ℕ
    pub up : Up basis.flow way y outside
    pub same : Same basis linear f x outside

  -- the function of the link drops a lock that is the same as x outside, where the link runs it
  abbrev pub DropsWhereItRuns : ℕ → Link → Type 0
  DropsWhereItRuns x link = link.starts ≡ false → DropsIn basis linear link.above link.way link.below x

  -- it is this label, and p doesn't drop it
  abbrev pub IsKept : (p x y : ℕ) → Type 0
  IsKept p x y = (Drops basis linear p x → ⊥) × (y ≡ x)

  -- p runs some function, and each that it runs drops a lock that is the same as x
  pub record AllDrop (p x : ℕ) : Type 0 where
    pub above : ℕ
    pub way : Way
    pub below : ℕ
    pub runs : Runs basis p above way below
    pub each : (f g : ℕ) (way : Way) → Runs basis p f way g → DropsIn basis linear f way g x

  -- by the sets x is acquired once p has run
  abbrev pub IsAfter : List (List ℕ) → ℕ → ℕ → Type 0
  IsAfter sets p x =
      ((has_in sets p x ≡ true) × (Drops basis linear p x → ⊥))
      ⊎ Gives basis (Has basis.program Exits sets) p x

  -- each live successor of p, where p is live, has what is acquired once p has run
  abbrev pub HasAcquired : ℕ → List (List ℕ) → Type 0
  HasAcquired p sets =
      live_at basis.program p ≡ true → (q x : ℕ) → IsLiveNext basis.program p q → IsAfter sets p x →
      has_in sets q x ≡ true

module _ (basis : Basis) where
  -- the numbers were added to sets of live points among these, and nothing else was
  pub record Grows (points ids : List ℕ) (count labels : ℕ) (old new : List (List ℕ)) : Type 0 where
    pub sets : AreSets count labels old → AreSets count labels new
    pub added : (k x : ℕ) → has_in new k x ≡ true →
        (has_in old k x ≡ true)
        ⊎ ((has_id points k ≡ true) × (live_at basis.program k ≡ true) × (has_id ids x ≡ true))

  -- the set of the point has the numbers, where it is live
  abbrev pub HasAll : List ℕ → ℕ → List (List ℕ) → Type 0
  HasAll ids k sets =
      live_at basis.program k ≡ true → (x : ℕ) → has_id ids x ≡ true → has_in sets k x ≡ true

  -- so it is with all of these points
  abbrev pub HaveAll : (points ids : List ℕ) → List (List ℕ) → Type 0
  HaveAll points ids sets = (k : ℕ) → has_id points k ≡ true → HasAll ids k sets
