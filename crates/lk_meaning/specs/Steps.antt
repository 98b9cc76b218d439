-- Steps: what a thread does in a state, and why it does nothing (C99 5.1.2.3; POSIX Base Definitions 4.11).
use Rattle.std.specs.Prelude.{◌≡◌, ℕ, true, false, ◌||◌, Option, Some, slice_get}
use Rattle.lk_facts.specs.declared.program.Program.{Program}
use Rattle.lk_values.specs.declared.why.Why.{Why}
use Rattle.lk_cells.specs.declared.state.State.{State}
use Rattle.lk_cells.specs.declared.state.Thread.{Thread}
use Rattle.lk_change.specs.declared.change.Change.{Change}
use Rattle.lk_meaning.specs.Decisions.{decision}
use Rattle.lk_meaning.specs.declared.deciding.Decision.TheVariants.{Moves, Waits, Undefined}
use Rattle.lk_meaning.specs.After.{after_change}

-- the thread t of s, where it is there
abbrev pub thread_at : State → ℕ → Option Thread
thread_at s t = slice_get s.threads t

-- the thread may go on: it is there, and neither it nor the process has ended
pub record MayGoOn (s : State) (t : ℕ) (thread : Thread) : Type 0 where
  pub there : thread_at s t ≡ Some thread
  pub not_ended : thread.ended ≡ false
  pub process : s.ended ≡ false

-- Step: in the state s the thread t performs the action of its point with the word w, and s2 is the state
-- after it (C99 5.1.2.3, 6.5, 6.8; the POSIX pages of the functions). The decision says what the action
-- changes, and after_change what the state is then.
pub record Step (program : Program) (s : State) (t w : ℕ) (s2 : State) : Type 0 where
  pub thread : Thread
  pub may : MayGoOn s t thread
  pub change : Change
  pub moves : decision program s t thread w ≡ Moves change
  pub is : s2 ≡ after_change program t s change

-- the thread t may go on, and waits where it stands: for a mutex, or for a thread to end (POSIX
-- pthread_mutex_lock, pthread_cond_wait, pthread_join)
pub record IsWaiting (program : Program) (s : State) (t w : ℕ) : Type 0 where
  pub thread : Thread
  pub may : MayGoOn s t thread
  pub is : decision program s t thread w ≡ Waits

-- the thread t may go on, but its step is undefined, by this first cause (C99 3.4.3, J.2; the
-- POSIX pages of the functions)
pub record IsUndefined (program : Program) (s : State) (t w : ℕ) (why : Why) : Type 0 where
  pub thread : Thread
  pub may : MayGoOn s t thread
  pub is : decision program s t thread w ≡ Undefined why

-- the thread t is there, and it or the process has ended (C99 7.20.4.3; POSIX pthread_exit)
pub record HasEnded (s : State) (t : ℕ) : Type 0 where
  pub thread : Thread
  pub there : thread_at s t ≡ Some thread
  pub ended : (thread.ended || s.ended) ≡ true
