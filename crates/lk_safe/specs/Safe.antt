-- The invariant of soundness of locks and races, over that of cells.
use Rattle.std.specs.Prelude.{◌≡◌, ℕ, List, Some, slice_get}
use Rattle.lk_cells.specs.declared.state.State.{State}
use Rattle.lk_cells.specs.declared.state.Thread.{Thread}
use Rattle.lk_facts.specs.Basis.{Basis}
use Rattle.lk_facts.specs.LockSets.{LockSets}
use Rattle.lk_facts.specs.declared.edge.Edge.{Edge}
use Rattle.lk_right.specs.Contexts.{Contexts}
use Rattle.lk_safe.specs.Owners.{own_trail, trails_in, roots_in, owned_by}
use Rattle.lk_trails.specs.Counting.{AreCounted}
use Rattle.lk_trails.specs.Holding.{AreHeld}
use Rattle.lk_trails.specs.Trails.{Left, ArePasts}

module _ (basis : Basis) where
  -- each thread owns, or waits for, what the lock sets say of where it is
  abbrev pub IsHolding : List Edge → LockSets → Contexts → State → Type 0
  IsHolding es held contexts s =
      (t : ℕ) (thread : Thread) (cs : List (List ℕ)) → slice_get s.threads t ≡ Some thread →
      slice_get contexts.frames t ≡ Some cs →
      AreHeld basis es held (owned_by basis contexts s t) (own_trail thread cs)

  -- any two threads have parted, in the frames that were ever left
  abbrev pub HasPasts : Contexts → State → Type 0
  HasPasts contexts s = (born : List (List Left)) × ArePasts basis born (trails_in contexts s)

  -- what is made once was made once
  abbrev pub IsCounted : Contexts → State → Type 0
  IsCounted contexts s =
      (done : List ℕ) × AreCounted basis.program done (trails_in contexts s) (roots_in contexts)

  pub record IsSafe (es : List Edge) (held : LockSets) (contexts : Contexts) (s : State) : Type 0 where
    pub holding : IsHolding es held contexts s
    pub pasts : HasPasts contexts s
    pub counted : IsCounted contexts s
