-- What is changed of mutexes and condition variables (the POSIX pages of the functions).
use Rattle.std.specs.Prelude.{ℕ, Option, None, Some, option_and_then}
use Rattle.std.specs.Option.{option_map}
use Rattle.lk_facts.specs.declared.program.Program.{Program}
use Rattle.lk_values.specs.declared.cell.Cell.{Cell}
use Rattle.lk_cells.specs.declared.kind.CellKind.{CellKind}
use Rattle.lk_cells.specs.declared.kind.CellKind.TheVariants as cell
use Rattle.lk_cells.specs.declared.state.State.{State}
use Rattle.lk_cells.specs.declared.state.Thread.{Thread}
use Rattle.lk_values.specs.declared.value.Condition.TheVariants as condition
use Rattle.lk_values.specs.declared.value.Mutex.{Mutex}
use Rattle.lk_values.specs.declared.value.Mutex.TheVariants as mutex
use Rattle.lk_values.specs.declared.value.Value.{Value}
use Rattle.lk_cells.specs.Operands.{operand}
use Rattle.lk_cells.specs.Places as places
use Rattle.lk_change.specs.declared.change.Change.{Change}
use Rattle.lk_change.specs.declared.change.Effect.{Effect}
use Rattle.lk_change.specs.declared.change.Effect.TheVariants as effect
use Rattle.lk_change.specs.Going.{changes, succeeds}

module _ (program : Program) (s : State) where
  -- puts a mutex that a pointer leads to into a state, where it leads to one
  abbrev pub mutex_made : Option Value → Mutex → Option Effect
  mutex_made v state =
      option_and_then (λ found. option_map (λ c. effect.PutMutex c state) (places.part_of s v))
      (places.mutex_through program.types s v)

  abbrev ready_of_kind : Cell → CellKind → Option Effect
  ready_of_kind c cell.Value = None
  ready_of_kind c cell.Mutex = Some (effect.PutMutex c mutex.Free)
  ready_of_kind c cell.Condition = Some (effect.PutCondition c condition.Ready)

  abbrev unready_of_kind : Cell → CellKind → Option Effect
  unready_of_kind c cell.Value = None
  unready_of_kind c cell.Mutex = Some (effect.PutMutex c mutex.NotReady)
  unready_of_kind c cell.Condition = Some (effect.PutCondition c condition.NotReady)

  -- makes a mutex or condition variable ready, the mutex free (POSIX pthread_mutex_init,
  -- pthread_cond_init); or not ready
  abbrev pub made_ready : Option Value → Option Effect
  made_ready v =
      option_and_then (λ c. option_and_then (ready_of_kind c) (places.kind_through program.types s v))
      (places.part_of s v)

  abbrev pub made_unready : Option Value → Option Effect
  made_unready v =
      option_and_then (λ c. option_and_then (unready_of_kind c) (places.kind_through program.types s v))
      (places.part_of s v)

-- frees the mutex while the thread waits on the condition variable (POSIX pthread_cond_wait)
abbrev pub releases : Program → State → ℕ → Option Value → Option Value → Option Change
releases program s p c v =
    option_and_then (λ condition. succeeds program p (mutex_made program s v mutex.Free))
    (places.condition_through program.types s c)

-- wakes threads that wait on a condition variable: any may wake at any time, so nothing
-- changes (POSIX pthread_cond_signal)
abbrev pub signals : Program → State → ℕ → Option Value → Option Change
signals program s p c =
    option_and_then (λ condition. succeeds program p (Some effect.Nothing))
    (places.condition_through program.types s c)

-- the thread owns the mutex, at once or when it has waited (POSIX pthread_mutex_lock, pthread_cond_wait)
abbrev pub locks : Program → State → ℕ → Thread → ℕ → Option Change
locks program s t thread a =
    succeeds program thread.frame.point (mutex_made program s (operand thread a) (mutex.Owned t))

abbrev pub retakes : Program → State → ℕ → Thread → ℕ → Option Change
retakes program s t thread a =
    changes program thread.frame.point (mutex_made program s (operand thread a) (mutex.Owned t))

-- frees the mutex (POSIX pthread_mutex_unlock)
abbrev pub unlocks : Program → State → Thread → ℕ → Option Change
unlocks program s thread a =
    succeeds program thread.frame.point (mutex_made program s (operand thread a) mutex.Free)

-- makes ready, or not ready, what an operand leads to (the POSIX pages of pthread_mutex_init,
-- pthread_cond_init and their opposites)
abbrev pub initialises : Program → State → Thread → ℕ → Option Change
initialises program s thread a = succeeds program thread.frame.point (made_ready program s (operand thread a))

abbrev pub destroys : Program → State → Thread → ℕ → Option Change
destroys program s thread a = succeeds program thread.frame.point (made_unready program s (operand thread a))

abbrev pub releases_by : Program → State → Thread → ℕ → ℕ → Option Change
releases_by program s thread c a = releases program s thread.frame.point (operand thread c) (operand thread a)
