-- What holds of each step, whatever its action: which answer it has, who owns a mutex, who has ended, and
-- what may change in cells (C99 5.1.2.3; POSIX Base Definitions 4.11, pthread_mutex_lock,
-- pthread_cond_wait, pthread_exit).
use Rattle.std.specs.Prelude.{◌≡◌, ◌<◌, ℕ, true, ◌⊎◌, List, Option, Some, length}
use Rattle.lk_facts.specs.Program.{action_at}
use Rattle.lk_facts.specs.declared.action.Action.{Action}
use Rattle.lk_facts.specs.declared.action.Action.TheVariants as does
use Rattle.lk_facts.specs.declared.program.Program.{Program}
use Rattle.lk_values.specs.declared.cell.Cell.{Cell}
use Rattle.lk_values.specs.declared.value.Condition.{Condition}
use Rattle.lk_values.specs.declared.value.Mutex.{Mutex}
use Rattle.lk_values.specs.declared.value.Mutex.TheVariants.{Free, Owned}
use Rattle.lk_values.specs.declared.value.Value.{Value}
use Rattle.lk_values.specs.declared.why.Why.{Why}
use Rattle.lk_cells.specs.Cells.{mutex_at, condition_at, value_at}
use Rattle.lk_cells.specs.Operands.{operand}
use Rattle.lk_cells.specs.Places as places
use Rattle.lk_cells.specs.declared.state.State.{State}
use Rattle.lk_cells.specs.declared.state.Thread.{Thread}
use Rattle.lk_birth.specs.Begins.{StartsRight}
use Rattle.lk_birth.specs.Starts.{started}
use Rattle.lk_meaning.specs.Reached.{Reached}
use Rattle.lk_meaning.specs.Runs.{touch}
use Rattle.lk_meaning.specs.Steps.{Step, IsWaiting, IsUndefined, HasEnded, thread_at}

-- what becomes of a step of a thread that is there
pub data Fate (program : Program) (s : State) (t w : ℕ) : Type 0 where
  moves : {s2 : State} → Step program s t w s2 → Fate program s t w
  waits : IsWaiting program s t w → Fate program s t w
  fails : {why : Why} → IsUndefined program s t w why → Fate program s t w
  ended : HasEnded s t → Fate program s t w

-- one of these holds at most, to one state or by one cause
pub record FateIsOne (program : Program) (s : State) (t w : ℕ) : Type 0 where
  pub one_state : (s2 s3 : State) → Step program s t w s2 → Step program s t w s3 → s2 ≡ s3
  pub one_cause : (a b : Why) → IsUndefined program s t w a → IsUndefined program s t w b → a ≡ b
  pub moves_waits : (s2 : State) → Step program s t w s2 → IsWaiting program s t w → ⊥
  pub moves_fails : (s2 : State) (why : Why) → Step program s t w s2 → IsUndefined program s t w why → ⊥
  pub moves_ended : (s2 : State) → Step program s t w s2 → HasEnded s t → ⊥
  pub waits_fails : (why : Why) → IsWaiting program s t w → IsUndefined program s t w why → ⊥
  pub waits_ended : IsWaiting program s t w → HasEnded s t → ⊥
  pub fails_ended : (why : Why) → IsUndefined program s t w why → HasEnded s t → ⊥

-- Of a thread that is there exactly one of these holds: it moves, waits, is undefined, or has ended.
abbrev pub EachThreadHasOneFate : Type 0
EachThreadHasOneFate =
    (program : Program) (s : State) (t w : ℕ) (thread : Thread) → thread_at s t ≡ Some thread →
    Fate program s t w × FateIsOne program s t w

-- the thread is there, and has ended
pub record IsOver (s : State) (t : ℕ) : Type 0 where
  pub thread : Thread
  pub there : thread_at s t ≡ Some thread
  pub ended : thread.ended ≡ true

-- A thread that has ended stays so (POSIX pthread_exit); that it moves no more is the law above.
abbrev pub EndedStayEnded : Type 0
EndedStayEnded = (program : Program) (s s2 : State) (t w u : ℕ) → Step program s t w s2 →
    IsOver s u → IsOver s2 u

-- the object of the cell is there
abbrev pub IsThere : State → Cell → Type 0
IsThere s c = c.object < length s.objects

-- The first states are reached, and so is what a step leads to from a state that is reached.
abbrev pub FirstStatesAreReached : Type 0
FirstStatesAreReached = (program : Program) (args : List (List ℕ)) → StartsRight program →
    Reached program (started program args)

abbrev pub StepsReach : Type 0
StepsReach = (program : Program) (s s2 : State) (t w : ℕ) → Reached program s → Step program s t w s2 →
    Reached program s2

module _ (program : Program) where
  -- what stands in a cell: a mutex, a condition variable, or a value
  abbrev pub mutex_in : State → Cell → Option Mutex
  mutex_in s c = places.in_object s (mutex_at program.types) c

  abbrev pub condition_in : State → Cell → Option Condition
  condition_in s c = places.in_object s (condition_at program.types) c

  abbrev pub value_in : State → Cell → Option Value
  value_in s c = places.in_object s (value_at program.types) c

  -- the thread owns the mutex in the cell
  abbrev pub Owns : State → ℕ → Cell → Type 0
  Owns s t c = mutex_in s c ≡ Some (Owned t)

  -- the thread stands at this action
  pub record StandsAt (s : State) (t : ℕ) (thread : Thread) (action : Action) : Type 0 where
    pub there : thread_at s t ≡ Some thread
    pub at : action_at program thread.frame.point ≡ Some action

  -- the thread is to take, to give back, or to make ready or not ready what stands in a cell, to which an
  -- operand points (POSIX pthread_mutex_lock, pthread_mutex_unlock, pthread_cond_wait,
  -- pthread_mutex_init, pthread_mutex_destroy)
  pub data Takes (s : State) (t : ℕ) (c : Cell) : Type 0 where
    locks : {thread : Thread} {a : ℕ} → StandsAt s t thread (does.Lock a) →
        places.part_of s (operand thread a) ≡ Some c → Takes s t c
    retakes : {thread : Thread} {a : ℕ} → StandsAt s t thread (does.Retake a) →
        places.part_of s (operand thread a) ≡ Some c → Takes s t c

  pub data GivesBack (s : State) (t : ℕ) (c : Cell) : Type 0 where
    unlocks : {thread : Thread} {a : ℕ} → StandsAt s t thread (does.Unlock a) →
        places.part_of s (operand thread a) ≡ Some c → GivesBack s t c
    releases : {thread : Thread} {b a : ℕ} → StandsAt s t thread (does.Release b a) →
        places.part_of s (operand thread a) ≡ Some c → GivesBack s t c

  pub data Makes (s : State) (t : ℕ) (c : Cell) : Type 0 where
    inits : {thread : Thread} {a : ℕ} → StandsAt s t thread (does.Init a) →
        places.part_of s (operand thread a) ≡ Some c → Makes s t c
    destroys : {thread : Thread} {a : ℕ} → StandsAt s t thread (does.Destroy a) →
        places.part_of s (operand thread a) ≡ Some c → Makes s t c

  -- Of a step of the thread t from s to s2: who owned a mutex owns it still, but for t, where it gave it
  -- back; who owns one now owned it before, but for t, where it took it when it was free.
  pub record KeepsOwners (s : State) (t : ℕ) (s2 : State) : Type 0 where
    pub kept : (u : ℕ) (c : Cell) → Owns s u c → Owns s2 u c ⊎ ((u ≡ t) × GivesBack s t c)
    pub new : (u : ℕ) (c : Cell) → Owns s2 u c →
        Owns s u c ⊎ ((u ≡ t) × Takes s t c × (mutex_in s c ≡ Some Free))

  -- the thread is to write the cell
  abbrev pub WillWrite : State → ℕ → Cell → Type 0
  WillWrite s t c = touch program s t ≡ Some (record { cell = c; writes = true })

  -- Of the same step: each cell of an object that is there before it is as it was, but for the one that t
  -- writes, and for the mutex or condition variable to which an operand of its point leads.
  pub record KeepsCells (s : State) (t : ℕ) (s2 : State) : Type 0 where
    pub values : (c : Cell) → IsThere s c → (value_in s2 c ≡ value_in s c) ⊎ WillWrite s t c
    pub mutexes : (c : Cell) → IsThere s c →
        (mutex_in s2 c ≡ mutex_in s c) ⊎ (WillWrite s t c ⊎ (Takes s t c ⊎ (GivesBack s t c ⊎ Makes s t c)))
    pub conditions : (c : Cell) → IsThere s c →
        (condition_in s2 c ≡ condition_in s c) ⊎ (WillWrite s t c ⊎ Makes s t c)

-- The owners of mutexes change by the actions of the threads that own them, or come to.
abbrev pub OwnersAreKept : Type 0
OwnersAreKept = (program : Program) (s s2 : State) (t w : ℕ) → Step program s t w s2 →
    KeepsOwners program s t s2

-- A step changes no other cells than these.
abbrev pub OtherCellsAreKept : Type 0
OtherCellsAreKept = (program : Program) (s s2 : State) (t w : ℕ) → Step program s t w s2 →
    KeepsCells program s t s2
