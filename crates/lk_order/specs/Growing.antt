-- Sets of labels that grow, each with a number: what is known so far of the labels that stand with it.
use Rattle.std.specs.Prelude.{◌≡◌, ℕ, true, List, length}
use Rattle.lk_facts.specs.Origins.{AreSetsBelow}
use Rattle.lk_held.specs.Releasing.{has_in}

-- so many sets of labels
pub record AreSets (count labels : ℕ) (sets : List (List ℕ)) : Type 0 where
  pub all : length sets ≡ count
  pub below : AreSetsBelow labels sets

module _ (count labels : ℕ) (P : ℕ → ℕ → Type 0) where
  -- what the sets say is so
  abbrev pub AreSound : List (List ℕ) → Type 0
  AreSound sets = (k x : ℕ) → has_in sets k x ≡ true → P k x

  -- the sets stay such sets, and sound
  pub record Gains (old new : List (List ℕ)) : Type 0 where
    pub sets : AreSets count labels old → AreSets count labels new
    pub sound : AreSound old → AreSound new

  -- the sets say just what is so
  pub record AreExact (found : List (List ℕ)) : Type 0 where
    pub sets : AreSets count labels found
    pub sound : AreSound found
    pub all : (k x : ℕ) → P k x → has_in found k x ≡ true
