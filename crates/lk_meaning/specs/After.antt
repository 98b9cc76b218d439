-- What the state is after a step has changed what it changes (C99 6.2.4, 6.5.2.2, 6.8.6.4, 7.20.3; POSIX
-- pthread_create, pthread_exit).
use Rattle.std.specs.Prelude.{ℕ, ◌-◌, true, List, [], ◌∷◌, ◌++◌, take, length, Option, None, Some, slice_get, slice_set}
use Rattle.std.specs.Option.{option_map_or}
use Rattle.lk_facts.specs.declared.program.Program.{Program}
use Rattle.lk_values.specs.declared.cell.Cell.{Cell}
use Rattle.lk_base.specs.declared.cell.CellStep.{CellStep}
use Rattle.lk_values.specs.declared.value.Value.{Value}
use Rattle.lk_cells.specs.Cells.{new_object, with_value, with_mutex, with_condition, after_life}
use Rattle.lk_cells.specs.Frames.{with_given}
use Rattle.lk_cells.specs.declared.object.Object.{Object}
use Rattle.lk_cells.specs.declared.state.Frame.{Frame}
use Rattle.lk_cells.specs.declared.state.Local.{Local}
use Rattle.lk_cells.specs.declared.state.State.{State}
use Rattle.lk_cells.specs.declared.state.Thread.{Thread}
use Rattle.lk_change.specs.Calls.{caller_of}
use Rattle.lk_change.specs.declared.change.Birth.{Birth}
use Rattle.lk_change.specs.declared.change.Call.{Call}
use Rattle.lk_change.specs.declared.change.Change.{Change}
use Rattle.lk_change.specs.declared.change.Change.TheVariants.{Goes, Enter, Leave, EndThread, EndProcess}
use Rattle.lk_change.specs.declared.change.Effect.{Effect}
use Rattle.lk_change.specs.declared.change.Effect.TheVariants as effect
use Rattle.lk_change.specs.declared.change.Going.{Going}
use Rattle.lk_change.specs.declared.change.Turn.{Turn}
use Rattle.lk_change.specs.declared.change.Turn.TheVariants as turn
use Rattle.lk_birth.specs.Births.{changed_at, type_of_root, made_for, new_thread}
use Rattle.lk_birth.specs.declared.births.Made.{Made}
use Rattle.lk_meaning.specs.declared.applying.Put.{Put}
use Rattle.lk_meaning.specs.declared.applying.Put.TheVariants as put

-- a frame that goes where its point sends it
abbrev pub turned : Turn → Frame → Frame
turned (turn.To q) frame = record frame { point = q; next_cell = None }
turned (turn.OnAt next) frame = record frame { next_cell = Some next }

-- a frame that keeps what its point gives, where it gives a value
abbrev pub recorded : Option Value → Frame → Frame
recorded None frame = frame
recorded (Some v) frame = with_given frame frame.point (Some v)

-- the thread after its point gave what it gave, and went where it goes
abbrev pub moved_on : Option Value → Turn → Thread → Thread
moved_on given to thread = record thread { frame = turned to (recorded given thread.frame) }

-- a state in which an object or a thread is changed, where it is there
abbrev pub object_changed : State → ℕ → (Object → Object) → State
object_changed s o f = record s { objects = changed_at s.objects o f }

abbrev pub thread_changed : State → ℕ → (Thread → Thread) → State
thread_changed s t f = record s { threads = changed_at s.threads t f }

-- a state in which a thread has gone on
abbrev pub gone_to : State → ℕ → Option Value → Turn → State
gone_to s t given to = thread_changed s t (moved_on given to)

-- an object with something put at a path
abbrev pub with_put : List CellStep → Put → Object → Object
with_put path (put.Value v) object = with_value object path v
with_put path (put.Mutex m) object = with_mutex object path m
with_put path (put.Condition c) object = with_condition object path c

-- a state in which a thread has gone on, and something is put into a cell
abbrev pub put_after : State → ℕ → Option Value → Turn → Cell → Put → State
put_after s t given to c item = object_changed (gone_to s t given to) c.object (with_put c.path item)

-- the thread with a value in a slot of its frame
abbrev pub with_slot : ℕ → Value → Thread → Thread
with_slot slot v thread =
    record thread { frame = record thread.frame { slots = slice_set thread.frame.slots slot v } }

-- the thread that keeps the number of the thread that it made
abbrev pub with_created : ℕ → Thread → Thread
with_created u thread = record thread { frame = record thread.frame { created = Some u } }

-- the thread after it was joined, was detached, or has ended
abbrev pub joined : Thread → Thread
joined thread = record thread { joined = true }

abbrev pub detached : Thread → Thread
detached thread = record thread { detached = true }

abbrev pub finished : Thread → Thread
finished thread = record thread { ended = true }

-- objects after the lives of locals, and of the locals of frames (C99 6.2.4, 5)
abbrev pub after_lives : List Object → List Local → List Object
after_lives objects [] = objects
after_lives objects (local ∷ more) = after_lives (changed_at objects local.object after_life) more

abbrev pub after_frames : List Object → List Frame → List Object
after_frames objects [] = objects
after_frames objects (frame ∷ more) = after_frames (after_lives objects frame.locals) more

-- what a call makes: its frame, and the objects of its locals
abbrev pub made_by : Program → State → Call → Made
made_by program s call = made_for program (length s.objects) call.function call.entry call.args

-- an object that is allocated, and the state with it (C99 7.20.3)
abbrev pub born : Program → Birth → Object
born program birth = new_object birth.root (type_of_root program birth.root) birth.length birth.initial

abbrev pub with_born : Program → Birth → State → State
with_born program birth s = record s { objects = s.objects ++ born program birth ∷ [] }

-- the thread with a frame on top of its own, which called it
abbrev pub calling : Frame → Thread → Thread
calling frame thread = record thread { frame = frame; below = thread.below ++ thread.frame ∷ [] }

-- the frame that called, with the value of its call, as it goes on; and the thread in it
abbrev pub returned : Option Value → ℕ → Frame → Frame
returned v q caller = turned (turn.To q) (with_given caller caller.point v)

abbrev pub back_in : Option Value → ℕ → Frame → Thread → Thread
back_in v q caller thread =
    record thread { frame = returned v q caller; below = take (length thread.below - 1) thread.below }

-- the objects after the locals of all frames of a thread have ended
abbrev pub all_ended : List Object → Thread → List Object
all_ended objects thread = after_frames objects (thread.frame ∷ thread.below)

-- What a step of the thread t does beside its own point.
module _ (t : ℕ) where
  -- begins a thread; the creator keeps its number (POSIX pthread_create)
  abbrev pub with_begun : Frame → List Thread → List Thread
  with_begun frame threads = changed_at threads t (with_created (length threads)) ++ new_thread frame ∷ []

  abbrev pub begun : State → Made → State
  begun s made = record s { objects = s.objects ++ made.objects; threads = with_begun made.frame s.threads }

  -- enters a function: its frame goes on top, its objects are born (C99 6.2.4, 5; 6.5.2.2)
  abbrev pub entered : State → Made → State
  entered s made =
      record s { objects = s.objects ++ made.objects; threads = changed_at s.threads t (calling made.frame) }

  -- leaves a function: its locals end, and the frame below gets the value of its call and goes
  -- on (C99 6.2.4, 5; 6.8.6.4, 3)
  abbrev pub left : State → Option Value → ℕ → Thread → Frame → State
  left s v q thread caller =
      record s { objects = after_lives s.objects thread.frame.locals; threads = changed_at s.threads t (back_in v q caller) }

  abbrev pub thread_ended : State → Thread → State
  thread_ended s thread =
      record s { objects = all_ended s.objects thread; threads = changed_at s.threads t finished }

  abbrev pub process_ended : State → Thread → State
  process_ended s thread = record s { objects = all_ended s.objects thread; ended = true }

  -- these, where the thread is there, and has a caller
  abbrev pub leaves : State → Option Value → ℕ → State
  leaves s v q =
      option_map_or (λ thread. option_map_or (left s v q thread) (caller_of thread) s)
      (slice_get s.threads t) s

  abbrev pub ends_thread : State → State
  ends_thread s = option_map_or (thread_ended s) (slice_get s.threads t) s

  abbrev pub ends_process : State → State
  ends_process s = option_map_or (process_ended s) (slice_get s.threads t) s

-- What the effect of a step of the thread t does to the state, in which t has
-- gone on; and what a change does.
module _ (program : Program) (t : ℕ) where
  abbrev pub after_effect : State → Effect → State
  after_effect s effect.Nothing = s
  after_effect s (effect.PutSlot slot v) = thread_changed s t (with_slot slot v)
  after_effect s (effect.PutValue c v) = object_changed s c.object (with_put c.path (put.Value v))
  after_effect s (effect.PutMutex c m) = object_changed s c.object (with_put c.path (put.Mutex m))
  after_effect s (effect.PutCondition c m) = object_changed s c.object (with_put c.path (put.Condition m))
  after_effect s (effect.Begin call) = begun t s (made_by program s call)
  after_effect s (effect.Join u) = thread_changed s u joined
  after_effect s (effect.Detach u) = thread_changed s u detached
  after_effect s (effect.Bear birth) = with_born program birth s
  after_effect s (effect.End o) = object_changed s o after_life

  -- goes on: first the point gives what it gives, then comes the effect
  abbrev pub gone_on : State → Going → State
  gone_on s going = after_effect (gone_to s t going.gives going.turn) going.effect

  -- the state after a change of the thread
  abbrev pub after_change : State → Change → State
  after_change s (Goes going) = gone_on s going
  after_change s (Enter call) = entered t s (made_by program s call)
  after_change s (Leave v q) = leaves t s v q
  after_change s EndThread = ends_thread t s
  after_change s EndProcess = ends_process t s
