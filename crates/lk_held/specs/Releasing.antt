-- Sets of the labels that functions release, as far as they are known.
use Rattle.std.specs.Prelude.{◌≡◌, ◌<◌, ◌-◌, ◌||◌, ◌↔◌, ℕ, Bool, true, false, List, [], Some, All, length, slice_index_or, slice_set, sum_by}
use Rattle.lk_facts.specs.Basis.{Basis}
use Rattle.lk_facts.specs.Flow.{Flow, Over}
use Rattle.lk_facts.specs.Held.{Released, Drops}
use Rattle.lk_facts.specs.Origins.{AreSetsBelow}
use Rattle.lk_facts.specs.Program.{function_at}
use Rattle.lk_links.specs.declared.link.Link.{Link}
use Rattle.lk_sets.specs.Ids.{has_id, IsSetOf}

-- whether x is in the set at a place
abbrev pub has_in : List (List ℕ) → ℕ → ℕ → Bool
has_in sets f x = has_id (slice_index_or sets f []) x

-- by the sets f releases x
abbrev pub Releases : List (List ℕ) → ℕ → ℕ → Type 0
Releases sets f x = has_in sets f x ≡ true

-- by the sets the function of the link releases what x is outside
abbrev pub IsOutside : Flow → (ℕ → ℕ → Type 0) → ℕ → Link → Type 0
IsOutside flow releases x link = (y : ℕ) × releases link.below y × Over flow link.way y x

-- how many numbers below n the sets may still take
unfoldable pub room : ℕ → List (List ℕ) → ℕ
room n sets = sum_by (λ set. n - length set) sets

-- the set at the place has the numbers too, and one of them is new
pub record Puts (old new : List (List ℕ)) (place : ℕ) (ids : List ℕ) : Type 0 where
  pub set : List ℕ
  pub union : IsSetOf (λ x. has_in old place x || has_id ids x) set
  pub is : new ≡ slice_set old place set
  pub more : (x : ℕ) × (has_id ids x ≡ true) × (has_in old place x ≡ false)

-- the numbers join the set at the place, which had them all where the answer is false
pub record Joins (old new : List (List ℕ)) (place : ℕ) (ids : List ℕ) (changed : Bool) : Type 0 where
  pub puts : changed ≡ true → Puts old new place ids
  pub same : changed ≡ false → new ≡ old
  pub had : changed ≡ false → (x : ℕ) → has_id ids x ≡ true → has_in old place x ≡ true

-- a set of labels for each function
pub record AreSets (basis : Basis) (sets : List (List ℕ)) : Type 0 where
  pub all : length sets ≡ length basis.program.functions
  pub below : AreSetsBelow (length basis.labels.entries) sets

module _ (basis : Basis) where
  -- functions release all that the sets say
  abbrev pub AreSound : List (List ℕ) → Type 0
  AreSound sets = (f x : ℕ) → has_in sets f x ≡ true → Released basis f x

  -- the sets still have what they had, and stay sets of labels, and sound
  pub record Gains (old new : List (List ℕ)) : Type 0 where
    pub sets : AreSets basis old → AreSets basis new
    pub kept : (f x : ℕ) → has_in old f x ≡ true → has_in new f x ≡ true
    pub sound : AreSound old → AreSound new

  -- what p releases, by the sets, is in the set of its function
  abbrev pub HasReleased : ℕ → List (List ℕ) → Type 0
  HasReleased p sets = (f x : ℕ) → function_at basis.program p ≡ Some f → Drops basis (Releases sets) p x →
      has_in sets f x ≡ true

  -- each function's set has just what it releases
  pub record AreReleased (found : List (List ℕ)) : Type 0 where
    pub sets : AreSets basis found
    pub exact : (f x : ℕ) → (has_in found f x ≡ true) ↔ Released basis f x

  -- for each of the first n points just the labels that it releases
  pub record AreDropped (n : ℕ) (found : List (List ℕ)) : Type 0 where
    pub all : length found ≡ n
    pub exact : (p x : ℕ) → p < n → (has_in found p x ≡ true) ↔ Drops basis (Released basis) p x
    pub below : All (All (λ x. x < length basis.labels.entries)) found
