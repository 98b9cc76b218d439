-- Which mutexes each function lets go on all ways through it.
use Rattle.std.specs.Prelude.{◌≡◌, ℕ, true, Some}
use Rattle.lk_facts.specs.Basis.{Basis}
use Rattle.lk_facts.specs.Doing.{Runs}
use Rattle.lk_facts.specs.Flow.{RisesAs}
use Rattle.lk_facts.specs.Held.{RunsNone}
use Rattle.lk_facts.specs.Labels.{is_lock_at}
use Rattle.lk_facts.specs.Program.{live_at, entry_of, exit_of}
use Rattle.lk_facts.specs.Reach.{IsLiveNext}
use Rattle.lk_facts.specs.declared.way.Way.{Way}
use Rattle.lk_order.specs.Mutexes.{LetsGo}

module _ (basis : Basis) where
  -- p doesn't let go the mutex of this name
  abbrev pub NotLetGo : ℕ → ℕ → Type 0
  NotLetGo p y = (f : ℕ) → LetsGo basis p f y → ⊥

  mutual
    -- on some way from the entry of its function to p no mutex of the name y is let go
    pub data NotDropped : ℕ → ℕ → Type 0 where
      entry : {p y : ℕ} (f : ℕ) → live_at basis.program p ≡ true → entry_of basis.program f ≡ Some p →
          NotDropped p y
      still : {p q y : ℕ} → live_at basis.program p ≡ true → IsLiveNext basis.program p q → Spares p y →
          NotDropped p y → NotDropped q y

    -- p doesn't drop y: it lets no mutex of this name go, and some function that it runs, if any,
    -- drops no lock that is y outside
    pub data Spares : ℕ → ℕ → Type 0 where
      runs_none : {p y : ℕ} → NotLetGo p y → RunsNone basis p → Spares p y
      not_from : {p f g y : ℕ} {way : Way} → NotLetGo p y → Runs basis p f way g →
          ((z e : ℕ) → is_lock_at basis.labels z ≡ true → RisesAs basis.flow way z y →
          exit_of basis.program g ≡ Some e → NotDropped e z) → Spares p y

  -- Dropped: f lets the lock y go on each way to its exit; each lock where no way leads there
  pub record Dropped (f y : ℕ) : Type 0 where
    pub lock : is_lock_at basis.labels y ≡ true
    pub exit : ℕ
    pub is : exit_of basis.program f ≡ Some exit
    pub dropped : NotDropped exit y → ⊥
