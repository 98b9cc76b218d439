-- Circles of threads that wait for one another's mutexes, and that an order in which mutexes are taken
-- excludes them (POSIX pthread_mutex_lock: deadlock).
use Rattle.std.specs.Prelude.{◌≡◌, ℕ, Bool, true, List, [], ◌∷◌}
use Rattle.lk_cells.specs.declared.state.State.{State}
use Rattle.lk_facts.specs.Basis.{Basis}
use Rattle.lk_facts.specs.Many.{IsLinear}
use Rattle.lk_facts.specs.PathTables.{IsFlowOf}
use Rattle.lk_facts.specs.Places.{AreDifferent}
use Rattle.lk_facts.specs.declared.edge.Edge.{Edge}
use Rattle.lk_facts.specs.declared.program.Program.{Program}
use Rattle.lk_meaning.specs.Laws.{Owns, Takes}
use Rattle.lk_meaning.specs.Reached.{Reached}
use Rattle.lk_order.specs.Order.{LiesOnCycle}
use Rattle.lk_right.specs.Laws.{IsAnalysed}
use Rattle.lk_safe.specs.Steps.{IsFollowed}
use Rattle.lk_values.specs.declared.cell.Cell.{Cell}

module _ (program : Program) (s : State) where
  -- the thread t stands where it takes a mutex, or takes it again after a wait, and u owns it
  pub record IsHeldUp (t u : ℕ) : Type 0 where
    pub cell : Cell
    pub takes : Takes program s t cell
    pub owns : Owns program s u cell

  -- each thread of the list is held up by the next one, and the last one by `first`
  pub data AreHeldUp (first : ℕ) : List ℕ → Type 0 where
    last : {t : ℕ} → IsHeldUp t first → AreHeldUp first (t ∷ [])
    more : {t u : ℕ} {rest : List ℕ} → IsHeldUp t u → AreHeldUp first (u ∷ rest) →
        AreHeldUp first (t ∷ u ∷ rest)

  -- Circle: different threads, each held up by the next one, and the last one by the first
  pub record Circle : Type 0 where
    pub first : ℕ
    pub others : List ℕ
    pub different : AreDifferent (first ∷ others)
    pub held_up : AreHeldUp first (first ∷ others)

-- no state to which the program comes has a circle
abbrev pub HasNoCircle : Program → Type 0
HasNoCircle program = (s : State) → Reached program s → Circle program s → ⊥

-- the lock places that count as linear have one mutex each (LOCKSMITH: linearity)
abbrev pub CountsLinear : Basis → (ℕ → Bool) → Type 0
CountsLinear basis linear = (q : ℕ) → linear q ≡ true → IsLinear basis.program q

-- no lock place lies on a cycle of the order
abbrev pub IsOrdered : Basis → (ℕ → Bool) → Type 0
IsOrdered basis linear = (q : ℕ) → LiesOnCycle basis linear q → ⊥

-- Where the order of the mutexes of a program that was lowered has no cycle, by its labels, its edges and a
-- flow that is closed, no threads wait in a circle.
abbrev pub OrderedHasNoCircle : Type 0
OrderedHasNoCircle =
    (basis : Basis) (es : List Edge) → IsFollowed basis es → (linear : ℕ → Bool) → CountsLinear basis linear →
    IsOrdered basis linear → HasNoCircle basis.program

-- so it is with the labels, the edges and what flows along these of a program that was lowered
abbrev pub OrderExcludesCircles : Type 0
OrderExcludesCircles =
    (basis : Basis) (es : List Edge) → IsAnalysed basis.program basis.labels es →
    IsFlowOf es basis.labels basis.flow → (linear : ℕ → Bool) → CountsLinear basis linear →
    IsOrdered basis linear → HasNoCircle basis.program
