-- Plays: the run of a program by the turns of a schedule, and the lines that tell of it.
use Rattle.std.specs.Prelude.{◌≡◌, ◌<◌, ◌+◌, ℕ, true, false, List, [], ◌∷◌, ◌++◌, Option, None, Some}
use Rattle.lk_birth.specs.Births.{listed}
use Rattle.lk_birth.specs.Starts.{started}
use Rattle.lk_cells.specs.declared.state.State.{State}
use Rattle.lk_cells.specs.declared.state.Thread.{Thread}
use Rattle.lk_facts.specs.declared.program.Program.{Program}
use Rattle.lk_meaning.specs.Locations.{HasLocation}
use Rattle.lk_meaning.specs.Runs.{touch}
use Rattle.lk_meaning.specs.Stepping.{Moves, IsFull}
use Rattle.lk_meaning.specs.Steps.{IsWaiting, IsUndefined, HasEnded, thread_at}
use Rattle.lk_meaning.specs.declared.stepping.Event.{Event}
use Rattle.lk_meaning.specs.declared.touching.Touched.{Touched}
use Rattle.lk_play.specs.Races.{AreRaced, race_lines}
use Rattle.lk_play.specs.declared.lines.Ending.{Ending}
use Rattle.lk_play.specs.declared.lines.Ending.TheVariants as ends
use Rattle.lk_play.specs.declared.lines.Line.{Line}
use Rattle.lk_play.specs.declared.lines.Line.TheVariants.{Access, End}
use Rattle.lk_play.specs.declared.schedules.Turn.{Turn}
use Rattle.lk_values.specs.declared.why.Why.{Why}

-- a play has at most so many steps
abbrev pub most_steps : ℕ
most_steps = 65536

-- T W, which is one step of the thread T with the word W; and T W *, which is such steps until T is about to
-- touch a cell
abbrev pub once : ℕ → ℕ → Turn
once t w = record { thread = t; word = w; until = false }

abbrev pub until : ℕ → ℕ → Turn
until t w = record { thread = t; word = w; until = true }

module _ (program : Program) where
  -- the line tells of the cell of a location that the thread reads or writes in its next step
  pub record TellsAccess (s : State) (t : ℕ) (line : Line) : Type 0 where
    pub thread : Thread
    pub there : thread_at s t ≡ Some thread
    pub touched : Touched
    pub touches : touch program s t ≡ Some touched
    pub location : ℕ
    pub of : HasLocation program s touched.cell location
    pub is : line ≡ Access t touched.writes location thread.frame.point

  -- such a line, or nothing where there is none
  abbrev pub IsTold : State → ℕ → Option Line → Type 0
  IsTold s t None = (line : Line) → TellsAccess s t line → ⊥
  IsTold s t (Some line) = TellsAccess s t line

  -- the first of these turns asks for a step of t with the word w, behind which the others are to come
  pub data Asks (s : State) : List Turn → ℕ → ℕ → List Turn → Type 0 where
    for_one : {t w : ℕ} {turns : List Turn} → Asks s (once t w ∷ turns) t w turns
    for_more : {t w : ℕ} {turns : List Turn} → touch program s t ≡ None →
        Asks s (until t w ∷ turns) t w (until t w ∷ turns)

  -- the thread doesn't move, and so the play ends
  pub data Stops (s : State) (t w : ℕ) : Ending → Type 0 where
    waits : IsWaiting program s t w → Stops s t w (ends.Waits t)
    fails : {why : Why} → IsUndefined program s t w why → Stops s t w (ends.Undefined t why)
    has_ended : HasEnded s t → Stops s t w (ends.Ended t)
    is_missing : thread_at s t ≡ None → Stops s t w (ends.NoThread t)
    is_full : IsFull program s t w → Stops s t w (ends.Full t)

  -- Plays s raced taken turns lines: from the state s on, in which there are races at the locations raced,
  -- and before which so many steps were taken, the turns lead to these lines
  pub data Plays : State → List ℕ → ℕ → List Turn → List Line → Type 0 where
    is_done : {s : State} {raced : List ℕ} {taken : ℕ} → Plays s raced taken [] (End ends.Schedule ∷ [])
    -- the thread of T W * touches a cell
    has_touched : {s : State} {raced : List ℕ} {taken t w : ℕ} {turns : List Turn} {lines : List Line}
        {touched : Touched} → touch program s t ≡ Some touched → Plays s raced taken turns lines →
        Plays s raced taken (until t w ∷ turns) lines
    -- a step: its access is told, and then the races that are new
    has_moved : {s s2 : State} {raced raced2 : List ℕ} {taken t w : ℕ} {turns rest : List Turn}
        {event : Event} {lines : List Line} (access : Option Line) → Asks s turns t w rest → taken < most_steps →
        Moves program s t w s2 event → IsTold s t access → AreRaced program s2 raced2 →
        Plays s2 raced2 (taken + 1) rest lines →
        Plays s raced taken turns (listed access ++ (race_lines raced raced2 ++ lines))
    has_stopped : {s : State} {raced : List ℕ} {taken t w : ℕ} {turns rest : List Turn} {ending : Ending} →
        Asks s turns t w rest → taken < most_steps → Stops s t w ending →
        Plays s raced taken turns (End ending ∷ [])
    -- a step more than a play may have
    at_limit : {s : State} {raced : List ℕ} {t w : ℕ} {turns rest : List Turn} → Asks s turns t w rest →
        Plays s raced most_steps turns (End ends.Limit ∷ [])

-- the lines of the play that begins where the program starts without strings: first the races there
pub record IsPlay (program : Program) (turns : List Turn) (lines : List Line) : Type 0 where
  pub raced : List ℕ
  pub are_raced : AreRaced program (started program []) raced
  pub rest : List Line
  pub plays : Plays program (started program []) raced 0 turns rest
  pub is : lines ≡ race_lines [] raced ++ rest
