-- What comes of a step, exactly: it moves where a step exists and no number runs out, and
-- each other answer has its cause.
use Rattle.std.specs.Prelude.{◌≡◌, ℕ, ◌<◌, ◌+◌, ◌^◌, true, false, ◌||◌, Option, None, length, slice_get, if◌then◌else◌}
use Rattle.std.specs.Option.{option_map, option_map_or}
use Rattle.lk_facts.specs.declared.program.Program.{Program}
use Rattle.lk_values.specs.declared.cell.Cell.{Cell}
use Rattle.lk_cells.specs.declared.state.State.{State}
use Rattle.lk_cells.specs.declared.state.Thread.{Thread}
use Rattle.lk_change.specs.declared.change.Change.{Change}
use Rattle.lk_birth.specs.Starts.{IsSmall}
use Rattle.lk_meaning.specs.Decisions.{decision}
use Rattle.lk_meaning.specs.Runs.{touch}
use Rattle.lk_meaning.specs.After.{after_change}
use Rattle.lk_meaning.specs.Full.{is_full, objects_made}
use Rattle.lk_meaning.specs.Steps.{Step, IsWaiting, IsUndefined, HasEnded, MayGoOn, thread_at}
use Rattle.lk_meaning.specs.declared.deciding.Decision.{Decision}
use Rattle.lk_meaning.specs.declared.deciding.Decision.TheVariants as decides
use Rattle.lk_meaning.specs.declared.stepping.Event.{Event}
use Rattle.lk_meaning.specs.declared.stepping.Next.{Next}
use Rattle.lk_meaning.specs.declared.stepping.Next.TheVariants as next_is
use Rattle.lk_meaning.specs.declared.stepping.Stepped.{Stepped}
use Rattle.lk_meaning.specs.declared.stepping.Stepped.TheVariants.{Moved, Waits, Undefined, Ended, NoSuchThread, Full, NoMemory}

-- the cell that the thread touches next
abbrev pub touched_cell : Program → State → ℕ → Option Cell
touched_cell program s t = option_map (λ touched. touched.cell) (touch program s t)

-- the event of a step
abbrev pub event_of : Program → State → ℕ → Thread → Event
event_of program s t thread =
    record { point = thread.frame.point; thread = t; touched = touched_cell program s t }

-- what is to come of a step, by what the thread does next
abbrev pub next_by : Program → State → ℕ → Thread → Decision → Next
next_by program s t thread (decides.Moves change) =
    if is_full program s change then next_is.Full else next_is.Moves change (event_of program s t thread)
next_by program s t thread decides.Waits = next_is.Waits
next_by program s t thread (decides.Undefined why) = next_is.Undefined why

abbrev pub next_of : Program → State → ℕ → ℕ → Thread → Next
next_of program s t w thread = next_by program s t thread (decision program s t thread w)

abbrev pub next_or_ended : Program → State → ℕ → ℕ → Thread → Next
next_or_ended program s t w thread =
    if thread.ended || s.ended then next_is.Ended else next_of program s t w thread

abbrev pub next : Program → State → ℕ → ℕ → Next
next program s t w = option_map_or (next_or_ended program s t w) (slice_get s.threads t) next_is.NoSuchThread

-- a step exists, and would make a thread or an object of the number that none may have
pub record IsFull (program : Program) (s : State) (t w : ℕ) : Type 0 where
  pub s2 : State
  pub step : Step program s t w s2
  pub full : is_full program s step.change ≡ true

-- the thread will move: its step is this change, which makes no such number, and the event tells of it
pub record WillMove (program : Program) (s : State) (t w : ℕ) (change : Change) (event : Event) : Type 0 where
  pub thread : Thread
  pub may : MayGoOn s t thread
  pub moves : decision program s t thread w ≡ decides.Moves change
  pub fits : is_full program s change ≡ false
  pub tells : event ≡ event_of program s t thread
  pub within : t < length s.threads
  pub numbers : length s.objects + objects_made program change < 2 ^ 32

-- what is to come of a step, by its cause
abbrev pub Comes : Program → State → ℕ → ℕ → Next → Type 0
Comes program s t w (next_is.Moves change event) = WillMove program s t w change event
Comes program s t w next_is.Waits = IsWaiting program s t w
Comes program s t w (next_is.Undefined why) = IsUndefined program s t w why
Comes program s t w next_is.Ended = HasEnded s t
Comes program s t w next_is.NoSuchThread = thread_at s t ≡ None
Comes program s t w next_is.Full = IsFull program s t w

-- what comes of performing a change: the state after it with the event, or the old
-- one where no memory is found
abbrev pub IsPerformed : Program → State → ℕ → Change → Event → Stepped → Type 0
IsPerformed program s t change event (Moved s2 told) = (s2 ≡ after_change program t s change) × (told ≡ event)
IsPerformed program s t change event (Waits s2) = ⊥
IsPerformed program s t change event (Undefined s2 why) = ⊥
IsPerformed program s t change event (Ended s2) = ⊥
IsPerformed program s t change event (NoSuchThread s2) = ⊥
IsPerformed program s t change event (Full s2) = ⊥
IsPerformed program s t change event (NoMemory s2) = s2 ≡ s

-- the step to s2 makes no such number, and the event tells of it
pub record Moves (program : Program) (s : State) (t w : ℕ) (s2 : State) (event : Event) : Type 0 where
  pub step : Step program s t w s2
  pub fits : is_full program s step.change ≡ false
  pub tells : event ≡ event_of program s t step.thread
  pub small : IsSmall s2

-- what the answer to a step tells
abbrev pub Tells : Program → State → ℕ → ℕ → Stepped → Type 0
Tells program s t w (Moved s2 event) = Moves program s t w s2 event
Tells program s t w (Waits s2) = IsWaiting program s t w × (s2 ≡ s)
Tells program s t w (Undefined s2 why) = IsUndefined program s t w why × (s2 ≡ s)
Tells program s t w (Ended s2) = HasEnded s t × (s2 ≡ s)
Tells program s t w (NoSuchThread s2) = (thread_at s t ≡ None) × (s2 ≡ s)
Tells program s t w (Full s2) = IsFull program s t w × (s2 ≡ s)
Tells program s t w (NoMemory s2) = s2 ≡ s
