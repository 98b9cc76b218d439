-- What steps do to trails, to owners and to the roots of objects; and that they keep the invariant. Each law
-- is the contract of a public function.
use Rattle.std.specs.Prelude.{◌≡◌, ℕ, List, ◌++◌}
use Rattle.lk_birth.specs.Begins.{StartsRight}
use Rattle.lk_birth.specs.Starts.{started}
use Rattle.lk_cells.specs.declared.state.State.{State}
use Rattle.lk_facts.specs.Basis.{Basis}
use Rattle.lk_facts.specs.Held.{AreClosedLockSets}
use Rattle.lk_facts.specs.LockSets.{LockSets}
use Rattle.lk_facts.specs.PathTables.{IsClosed}
use Rattle.lk_facts.specs.declared.edge.Edge.{Edge}
use Rattle.lk_meaning.specs.Reached.{Reached}
use Rattle.lk_meaning.specs.Steps.{Step}
use Rattle.lk_right.specs.Contexts.{Contexts, own_context}
use Rattle.lk_right.specs.Laws.{IsAnalysed}
use Rattle.lk_right.specs.Sound.{IsSound}
use Rattle.lk_safe.specs.Owners.{trails_in, roots_in, owned_by}
use Rattle.lk_safe.specs.Safe.{IsSafe}
use Rattle.lk_sound.specs.Soundness.{first_contexts, contexts_next}
use Rattle.lk_trails.specs.Counting.{MakesRoots}
use Rattle.lk_trails.specs.Holding.{OwnedGoesOn}
use Rattle.lk_trails.specs.Trails.{Act, stay, TrailsMove}

-- The labels and the edges are those of a program that was lowered, and the flow is closed.
pub record IsFollowed (basis : Basis) (es : List Edge) : Type 0 where
  pub analysed : IsAnalysed basis.program basis.labels es
  pub closed : IsClosed es basis.labels basis.flow

-- what a step does to the trails and to the objects
pub record Steps (basis : Basis) (t : ℕ) (contexts : Contexts) (s : State) (later : Contexts)
    (s2 : State) : Type 0 where
  pub act : Act
  pub trails : TrailsMove basis t (trails_in contexts s) (trails_in later s2) act
  pub more : List ℕ
  pub makes : MakesRoots basis.program act more
  pub roots : roots_in later ≡ roots_in contexts ++ more

abbrev pub StepsMoveTrails : Type 0
StepsMoveTrails =
    (basis : Basis) (es : List Edge) → IsFollowed basis es → (contexts : Contexts) (s s2 : State) (t w : ℕ) →
    IsSound basis.program basis.labels es contexts s → (step : Step basis.program s t w s2) →
    Steps basis t contexts s (contexts_next basis.program contexts t step.thread step.change) s2

-- what a step of the thread t, which stands at p in the context c, does to what threads own
pub record OwnersGoOn (basis : Basis) (es : List Edge) (t p : ℕ) (c : List ℕ) (contexts : Contexts)
    (s : State) (later : Contexts) (s2 : State) : Type 0 where
  pub others : (u : ℕ) → (u ≡ t → ⊥) → (o : ℕ) (h : List ℕ) → owned_by basis contexts s u o h →
      owned_by basis later s2 u o h
  pub own : (held : LockSets) →
      OwnedGoesOn basis es held (stay p c) (owned_by basis contexts s t) (owned_by basis later s2 t)

abbrev pub StepsMoveOwners : Type 0
StepsMoveOwners =
    (basis : Basis) (es : List Edge) → IsFollowed basis es → (contexts : Contexts) (s s2 : State) (t w : ℕ) →
    IsSound basis.program basis.labels es contexts s → (step : Step basis.program s t w s2) →
    OwnersGoOn basis es t step.thread.frame.point (own_context contexts t) contexts s
    (contexts_next basis.program contexts t step.thread step.change) s2

-- ---- the invariant at the start, and along steps

abbrev pub StartIsSafe : Type 0
StartIsSafe =
    (basis : Basis) (es : List Edge) → IsFollowed basis es → (held : LockSets) →
    AreClosedLockSets basis held → StartsRight basis.program → (args : List (List ℕ)) →
    IsSafe basis es held (first_contexts (started basis.program args)) (started basis.program args)

abbrev pub StepsKeepSafe : Type 0
StepsKeepSafe =
    (basis : Basis) (es : List Edge) → IsFollowed basis es → (held : LockSets) →
    AreClosedLockSets basis held → (contexts : Contexts) (s s2 : State) (t w : ℕ) →
    IsSound basis.program basis.labels es contexts s → IsSafe basis es held contexts s →
    (step : Step basis.program s t w s2) →
    IsSafe basis es held (contexts_next basis.program contexts t step.thread step.change) s2

abbrev pub ReachedIsSafe : Type 0
ReachedIsSafe =
    (basis : Basis) (es : List Edge) → IsFollowed basis es → (held : LockSets) →
    AreClosedLockSets basis held → (s : State) → Reached basis.program s →
    (contexts : Contexts) × IsSound basis.program basis.labels es contexts s × IsSafe basis es held contexts s
