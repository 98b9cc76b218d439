-- Which mutexes a thread may own at each point, which it may lock there, and which it
-- may lock while it owns another.
use Rattle.std.specs.Prelude.{◌≡◌, ℕ, Bool, true, Some}
use Rattle.lk_facts.specs.Basis.{Basis}
use Rattle.lk_facts.specs.Doing.{Runs}
use Rattle.lk_facts.specs.Flow.{Over, Up}
use Rattle.lk_facts.specs.Program.{live_at, exit_of}
use Rattle.lk_facts.specs.Reach.{IsLiveNext}
use Rattle.lk_facts.specs.declared.way.Way.{Way}
use Rattle.lk_order.specs.Dropped.{Dropped}
use Rattle.lk_order.specs.Mutexes.{Locks, LetsGo, Enters}
use Rattle.lk_order.specs.Same.{Same}

module _ (basis : Basis) (linear : ℕ → Bool) where
  -- the function g drops a lock that is the same as x in f, to which the way leads out
  pub record DropsIn (f : ℕ) (way : Way) (g x : ℕ) : Type 0 where
    pub inside : ℕ
    pub outside : ℕ
    pub dropped : Dropped basis g inside
    pub up : Up basis.flow way inside outside
    pub same : Same basis linear f x outside

  -- p drops x: it lets the same mutex go, or it runs some function, and each that it runs does
  pub data Drops (p x : ℕ) : Type 0 where
    itself : {f y : ℕ} → LetsGo basis p f y → Same basis linear f x y → Drops p x
    below : {f g : ℕ} {way : Way} → Runs basis p f way g →
        ((f g : ℕ) (way : Way) → Runs basis p f way g → DropsIn f way g x) → Drops p x

  -- Acq: on some way to q a mutex of the name x was locked, and not dropped since
  pub data Acq : (q x : ℕ) → Type 0 where
    kept : {p q x : ℕ} → live_at basis.program p ≡ true → IsLiveNext basis.program p q → Acq p x →
        (Drops p x → ⊥) → Acq q x
    locked : {p q f x : ℕ} → Locks basis p f x → IsLiveNext basis.program p q → Acq q x
    returned : {p q f g e y x : ℕ} {way : Way} → Runs basis p f way g → IsLiveNext basis.program p q →
        exit_of basis.program g ≡ Some e → Acq e y → Over basis.flow way y x → Acq q x

  mutual
    -- Want: the point p of f locks the mutex of the name s, itself or in what it runs
    pub data Want : (p f s : ℕ) → Type 0 where
      itself : {p f s : ℕ} → Locks basis p f s → Want p f s
      below : {p f g s t : ℕ} {way : Way} → Runs basis p f way g → Wants g s → Over basis.flow way s t →
          Want p f t

    -- Wants: some point of f does
    pub data Wants : (f s : ℕ) → Type 0 where
      at : {p f s : ℕ} → Want p f s → Wants f s

  -- Pair: f, or what it runs or starts, may lock the mutex of the name s while it owns that of the name x
  pub data Pair : (f x s : ℕ) → Type 0 where
    here : {p f x s : ℕ} → Acq p x → Want p f s → Pair f x s
    below : {p f g x y s t : ℕ} {way : Way} → Enters basis p f way g → Pair g x s → Over basis.flow way x y →
        Over basis.flow way s t → Pair f y t
