-- What the calls inside this crate answer, which private contracts alone cite.
use Rattle.std.specs.Prelude.{◌≡◌, ◌≢◌, ◌<◌, ◌^◌, ◌+◌, ◌↔◌, ◌==◌, ℕ, Bool, true, false, List, [], ◌∷◌, ◌++◌, Option, None, Some, length, slice_get, option_and_then, IsTrue, ⊤}
use Rattle.std.specs.Fmt.{decimal}
use Rattle.std.specs.List.{position_or_len}
use Rattle.lk_birth.specs.Starts.{IsSmall}
use Rattle.lk_cells.specs.Places as places
use Rattle.lk_cells.specs.declared.state.State.{State}
use Rattle.lk_facts.specs.declared.program.Program.{Program}
use Rattle.lk_meaning.specs.Locations.{HasLocation}
use Rattle.lk_meaning.specs.Runs.{touch}
use Rattle.lk_meaning.specs.declared.touching.Touched.{Touched}
use Rattle.lk_play.specs.Plays.{Plays, until, most_steps}
use Rattle.lk_play.specs.Races.{AreRaced, race_lines}
use Rattle.lk_play.specs.Schedules.{AreTurns, IsBad, IsTurn, star_text}
use Rattle.lk_play.specs.declared.lines.Ending.{Ending}
use Rattle.lk_play.specs.declared.lines.Line.{Line}
use Rattle.lk_play.specs.declared.lines.Line.TheVariants.{Access, Race, End}
use Rattle.lk_play.specs.declared.running.Coming.{Coming}
use Rattle.lk_play.specs.declared.running.Coming.TheVariants.{On, Over}
use Rattle.lk_play.specs.declared.running.Telling.{Telling}
use Rattle.lk_play.specs.declared.schedules.Turn.{Turn}
use Rattle.lk_sets.specs.Ids.{has_id}
use Rattle.lk_values.specs.declared.cell.Cell.{Cell}

-- ---- schedules

-- how many bytes stand before the first one of this value
abbrev pub len_before : ℕ → List ℕ → ℕ
len_before end bytes = position_or_len (λ b. b == end) bytes

-- the number that bytes write
abbrev pub TellsNumber : List ℕ → Option ℕ → Type 0
TellsNumber bytes None = (n : ℕ) → n < 2 ^ 64 → bytes ≡ decimal n → ⊥
TellsNumber bytes (Some n) = (n < 2 ^ 64) × (bytes ≡ decimal n)

-- what the end of a turn says
abbrev pub TellsStar : List ℕ → Option Bool → Type 0
TellsStar star None = (until : Bool) → star ≡ star_text until → ⊥
TellsStar star (Some until) = star ≡ star_text until

-- the turn that a line is
abbrev pub TellsTurn : List ℕ → Option Turn → Type 0
TellsTurn line None = (turn : Turn) → IsTurn line turn → ⊥
TellsTurn line (Some turn) = IsTurn line turn

-- a line is put behind those of which there are turns so far, or is bad
abbrev pub PutsLine : List ℕ → List Turn → List Turn → Bool → Type 0
PutsLine line old new true =
    (before : List (List ℕ)) → AreTurns before old → AreTurns (before ++ line ∷ []) new
PutsLine line old new false = IsBad line

-- ---- lines

-- the location and the point that a line names are there
abbrev pub IsLineThere : Program → Line → Type 0
IsLineThere program (Access t writes n p) = (n < length program.places) × (p < length program.points)
IsLineThere program (Race n) = n < length program.places
IsLineThere program (End ending) = ⊤

-- ---- races

-- what the thread touches
abbrev pub touched_at : List (Option Touched) → ℕ → Option Touched
touched_at touches t = option_and_then (λ touched. touched) (slice_get touches t)

-- what each thread touches
abbrev pub AreTouches : Program → State → List (Option Touched) → Type 0
AreTouches program s touches = (t : ℕ) → touched_at touches t ≡ touch program s t

-- it is this cell
abbrev pub IsAt : Option Touched → Cell → Type 0
IsAt touched c = (writes : Bool) × (touched ≡ Some (record { cell = c; writes = writes }))

-- another thread touches the cell
pub record HasOther (touches : List (Option Touched)) (t : ℕ) (c : Cell) : Type 0 where
  pub other : ℕ
  pub different : other ≢ t
  pub at : IsAt (touched_at touches other) c

-- the thread writes a cell of the location that another touches
pub record IsRacedBy (program : Program) (s : State) (touches : List (Option Touched))
    (t n : ℕ) : Type 0 where
  pub cell : Cell
  pub writes : touched_at touches t ≡ Some (record { cell = cell; writes = true })
  pub lives : IsTrue (places.lives s cell.object)
  pub other : HasOther touches t cell
  pub of : HasLocation program s cell n

abbrev pub TellsRacedBy : Program → State → List (Option Touched) → ℕ → Option ℕ → Type 0
TellsRacedBy program s touches t None = (n : ℕ) → IsRacedBy program s touches t n → ⊥
TellsRacedBy program s touches t (Some n) = IsRacedBy program s touches t n

-- the locations at which the threads below i race so
abbrev pub AreFoundBelow : Program → State → List (Option Touched) → ℕ → List ℕ → Type 0
AreFoundBelow program s touches i found =
    (n : ℕ) → (has_id found n ≡ true) ↔ ((t : ℕ) × (t < i) × IsRacedBy program s touches t n)

-- the locations at which some thread races so
abbrev pub AreAllRaced : Program → State → List (Option Touched) → List ℕ → Type 0
AreAllRaced program s touches found =
    (n : ℕ) → (has_id found n ≡ true) ↔ ((t : ℕ) × IsRacedBy program s touches t n)

-- ---- plays

module _ (program : Program) (s : State) (old : Telling) (turns : List Turn) (new : Telling) where
  -- the play, which stands at s with these turns, goes on to s2 with the rest of them; what was told is told
  pub record GoesOn (s2 : State) (rest : List Turn) : Type 0 where
    pub small : IsSmall s2
    pub more : List Line
    pub lines : new.lines.items ≡ old.lines.items ++ more
    pub leads : (after : List Line) → Plays program s2 new.raced new.taken rest after →
        Plays program s old.raced old.taken turns (more ++ after)

  -- the play ends
  pub record EndsSo (ending : Ending) : Type 0 where
    pub more : List Line
    pub lines : new.lines.items ≡ old.lines.items ++ more
    pub plays : Plays program s old.raced old.taken turns (more ++ End ending ∷ [])

  abbrev pub Comes : List Turn → Coming → Type 0
  Comes rest (On s2) = GoesOn s2 rest
  Comes rest (Over ending) = EndsSo ending

-- the thread is about to touch a cell, or isn't
abbrev pub TellsTouch : Program → State → ℕ → Bool → Type 0
TellsTouch program s t true = (touched : Touched) × (touch program s t ≡ Some touched)
TellsTouch program s t false = touch program s t ≡ None

-- a step was counted, where one was taken
abbrev pub Counts : Telling → Telling → Coming → Type 0
Counts old new (On s2) = (old.taken < most_steps) × (new.taken ≡ old.taken + 1)
Counts old new (Over ending) = ⊤

-- what was told at the state where a play begins
pub record BeginsAt (program : Program) (s : State) (telling : Telling) : Type 0 where
  pub raced : AreRaced program s telling.raced
  pub lines : telling.lines.items ≡ race_lines [] telling.raced
  pub taken : telling.taken ≡ 0
