-- Schedules: which threads are to move, turn by turn. A file has lines, each empty or a turn; the last
-- newline may be absent.
use Rattle.std.specs.Prelude.{◌≡◌, ◌<◌, ◌^◌, ◌+◌, ◌==◌, ℕ, Bool, List, [], ◌∷◌, ◌++◌, codes, if◌then◌else◌, length, ⊤}
use Rattle.std.specs.Fmt.{decimal}
use Rattle.std.specs.List.{slice_split}
use Rattle.lk_play.specs.declared.schedules.ScheduleFault.{ScheduleFault}
use Rattle.lk_play.specs.declared.schedules.ScheduleFault.TheVariants as fault
use Rattle.lk_play.specs.declared.schedules.Turn.{Turn}

-- what stands behind the word of a turn
abbrev pub star_text : Bool → List ℕ
star_text until = if until then codes " *" else []

-- THREAD WORD, or THREAD WORD *
abbrev pub turn_text : Turn → List ℕ
turn_text turn =
    decimal turn.thread ++ (codes " " ++ (decimal turn.word ++ star_text turn.until))

-- the line is this turn
pub record IsTurn (line : List ℕ) (turn : Turn) : Type 0 where
  pub thread : turn.thread < 2 ^ 32
  pub word : turn.word < 2 ^ 64
  pub text : line ≡ turn_text turn

-- lines that are each empty or a turn, and the turns in their order
pub data AreTurns : List (List ℕ) → List Turn → Type 0 where
  no_lines : AreTurns [] []
  empty_line : {lines : List (List ℕ)} {turns : List Turn} → AreTurns lines turns →
      AreTurns ([] ∷ lines) turns
  a_turn : {line : List ℕ} {turn : Turn} {lines : List (List ℕ)} {turns : List Turn} → IsTurn line turn →
      AreTurns lines turns → AreTurns (line ∷ lines) (turn ∷ turns)

-- the line is neither
pub record IsBad (line : List ℕ) : Type 0 where
  pub something : line ≡ [] → ⊥
  pub no_turn : (turn : Turn) → IsTurn line turn → ⊥

-- the lines of a file; what stands behind the last newline is one more
abbrev pub lines_of : List ℕ → List (List ℕ)
lines_of bytes = slice_split (λ b. b == 10) bytes

-- the turns of a schedule file
abbrev pub IsSchedule : List ℕ → List Turn → Type 0
IsSchedule bytes turns = AreTurns (lines_of bytes) turns

-- the line of this number, counted from 1, is the first that is neither empty nor a turn
pub record HasBadLine (bytes : List ℕ) (number : ℕ) : Type 0 where
  pub before : List (List ℕ)
  pub line : List ℕ
  pub behind : List (List ℕ)
  pub are : lines_of bytes ≡ before ++ line ∷ behind
  pub turns : List Turn
  pub good : AreTurns before turns
  pub bad : IsBad line
  pub counts : number ≡ length before + 1

-- what a fault tells of a file
abbrev pub TellsFault : List ℕ → ScheduleFault → Type 0
TellsFault bytes (fault.Bad number) = HasBadLine bytes number
TellsFault bytes fault.NoMemory = ⊤

-- a file is one schedule, or has one first bad line, and not both
pub record SchedulesAreOne : Type 0 where
  pub one : (bytes : List ℕ) (turns others : List Turn) → IsSchedule bytes turns → IsSchedule bytes others →
      turns ≡ others
  pub not_bad : (bytes : List ℕ) (turns : List Turn) (number : ℕ) → IsSchedule bytes turns →
      HasBadLine bytes number → ⊥
  pub one_bad : (bytes : List ℕ) (number other : ℕ) → HasBadLine bytes number → HasBadLine bytes other →
      number ≡ other
