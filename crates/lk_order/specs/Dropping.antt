-- Which locks each way to a point lets go, as far as it is known.
use Rattle.std.specs.Prelude.{◌≡◌, ◌⊎◌, ◌↔◌, ◌<◌, ℕ, Bool, true, false, List, [], Option, Some, None, if◌then◌else◌, ◌&&◌, length}
use Rattle.lk_facts.specs.Basis.{Basis}
use Rattle.lk_facts.specs.Doing.{Runs}
use Rattle.lk_facts.specs.Flow.{RisesAs}
use Rattle.lk_facts.specs.Held.{IsBrought, RunsNone}
use Rattle.lk_facts.specs.Labels.{is_lock_at}
use Rattle.lk_facts.specs.Program.{live_at, entry_of, exit_of}
use Rattle.lk_facts.specs.Reach.{IsLiveNext}
use Rattle.lk_facts.specs.declared.program.Program.{Program}
use Rattle.lk_facts.specs.declared.way.Way.{Way}
use Rattle.lk_order.specs.Dropped.{NotLetGo, NotDropped, Dropped}
use Rattle.lk_order.specs.Left.{is_left}
use Rattle.lk_order.specs.Mutexes.{LetsGo}
use Rattle.lk_order.specs.declared.states.States.{States}
use Rattle.lk_sets.specs.Ids.{has_id, IsSetOf}

module _ (basis : Basis) (at : ℕ → ℕ → Bool) where
  -- by the table p lets go what x names: itself, or each function that it runs does
  pub data LetsGoAt (p x : ℕ) : Type 0 where
    itself : {f : ℕ} → LetsGo basis p f x → LetsGoAt p x
    below : {f g : ℕ} {way : Way} → Runs basis p f way g →
        ((f g : ℕ) (way : Way) → Runs basis p f way g → IsBrought basis at way g x) → LetsGoAt p x

  -- by the table it doesn't
  pub data SparesAt (p x : ℕ) : Type 0 where
    runs_none : NotLetGo basis p x → RunsNone basis p → SparesAt p x
    not_from : {f g : ℕ} {way : Way} → NotLetGo basis p x → Runs basis p f way g →
        ((y e : ℕ) → is_lock_at basis.labels y ≡ true → RisesAs basis.flow way y x →
        exit_of basis.program g ≡ Some e → at e y ≡ false) → SparesAt p x

  -- the labels that p lets go
  pub record AreLetGo (p : ℕ) (ids : List ℕ) : Type 0 where
    pub gone : (x : ℕ) → has_id ids x ≡ true → LetsGoAt p x
    pub spared : (x : ℕ) → has_id ids x ≡ false → SparesAt p x

  -- the locks that each way through p lets go
  pub record AreAfter (p : ℕ) (ids : List ℕ) : Type 0 where
    pub locks : (x : ℕ) → has_id ids x ≡ true → is_lock_at basis.labels x ≡ true
    pub gone : (x : ℕ) → has_id ids x ≡ true → LetsGoAt p x ⊎ (at p x ≡ true)
    pub spared : (x : ℕ) → is_lock_at basis.labels x ≡ true → has_id ids x ≡ false →
        SparesAt p x × (at p x ≡ false)

-- a set of locks for each point, empty at live entries
pub record AreStates (basis : Basis) (states : States) : Type 0 where
  pub locks : IsSetOf (is_lock_at basis.labels) states.locks
  pub all : length states.sets.items ≡ length basis.program.points
  pub inside : (p x : ℕ) → is_left states p x ≡ true → is_lock_at basis.labels x ≡ true
  pub entries : (f p x : ℕ) → live_at basis.program p ≡ true → entry_of basis.program f ≡ Some p →
      is_left states p x ≡ false

module _ (basis : Basis) where
  -- some of the live points lose what isn't in the set, and nothing else changes
  pub record Sheds (points ids : List ℕ) (old new : States) : Type 0 where
    pub locks : new.locks ≡ old.locks
    pub long : length new.sets.items ≡ length old.sets.items
    pub fewer : (p x : ℕ) → is_left new p x ≡ true → is_left old p x ≡ true
    pub gone : (p x : ℕ) → is_left old p x ≡ true → is_left new p x ≡ false →
        (has_id points p ≡ true) × (live_at basis.program p ≡ true) × (has_id ids x ≡ false)

  -- the live ones hold only what is in the set
  abbrev pub AreWithin : List ℕ → List ℕ → States → Type 0
  AreWithin points ids states =
      (p x : ℕ) → has_id points p ≡ true → live_at basis.program p ≡ true → is_left states p x ≡ true →
      has_id ids x ≡ true

  -- what was taken away isn't let go on some way
  abbrev pub AreLost : States → Type 0
  AreLost states =
      (p x : ℕ) → p < length basis.program.points → is_lock_at basis.labels x ≡ true →
      is_left states p x ≡ false → NotDropped basis p x

  -- the states stay such sets, and lose only what isn't let go
  pub record Loses (old new : States) : Type 0 where
    pub states : AreStates basis old → AreStates basis new
    pub lost : AreLost old → AreLost new

  -- what a live successor of p has, where p is live, p lets go or has too
  abbrev pub HasPassed : ℕ → States → Type 0
  HasPassed p states =
      live_at basis.program p ≡ true → (q x : ℕ) → IsLiveNext basis.program p q → is_left states q x ≡ true →
      LetsGoAt basis (is_left states) p x ⊎ (is_left states p x ≡ true)

  -- the sets at the exits of functions are those that these drop
  pub record AreDropped (states : States) : Type 0 where
    pub all : length states.sets.items ≡ length basis.program.points
    pub inside : (p x : ℕ) → is_left states p x ≡ true → is_lock_at basis.labels x ≡ true
    pub exact : (f e y : ℕ) → exit_of basis.program f ≡ Some e →
        (is_left states e y ≡ true) ↔ Dropped basis f y

-- no locks at live entries, and all elsewhere
abbrev pub first_set : Program → List ℕ → ℕ → Option (List ℕ)
first_set program entries p = if live_at program p && has_id entries p then Some [] else None
