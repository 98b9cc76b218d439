-- What is told of a play of accepted sources: a run of the program that they make, by the turns of a schedule, with
-- the races in its states (POSIX Base Definitions 4.11).
use Rattle.std.specs.Bool.{⊤}
use Rattle.std.specs.Prelude.{ℕ, ◌≡◌, Bool, List, Some, All, slice_get, if◌then◌else◌}
use Rattle.lk_base.specs.declared.status.Status.{Status}
use Rattle.lk_base.specs.declared.status.Status.TheVariants as status
use Rattle.lk_birth.specs.Begins.{StartsRight}
use Rattle.lk_facts.specs.declared.program.Program.{Program}
use Rattle.lk_facts.specs.declared.verdict.Verdict.{Verdict}
use Rattle.lk_facts.specs.declared.verdict.VerdictState.TheVariants.{Suspect}
use Rattle.lk_play.specs.Lines.{has_race, lines_text}
use Rattle.lk_play.specs.Plays.{IsPlay}
use Rattle.lk_play.specs.declared.lines.Line.{Line}
use Rattle.lk_play.specs.declared.lines.Line.TheVariants.{Access, Race, End}
use Rattle.lk_play.specs.declared.schedules.Turn.{Turn}
use Rattle.lk_solve.specs.Verdicts.{HasVerdicts}
use Rattle.lk_sources.specs.declared.accepting.Accepted as code
use Rattle.lk_top.specs.Analysis.{IsToldOf}

-- a race that is told is at a location that the verdict calls suspect
abbrev pub IsOfSuspect : List Verdict → Line → Type 0
IsOfSuspect verdicts (Access t writes n p) = ⊤
IsOfSuspect verdicts (Race n) =
    (verdict : Verdict) → slice_get verdicts n ≡ Some verdict → verdict.state ≡ Suspect
IsOfSuspect verdicts (End ending) = ⊤

-- so it is by the verdicts of the program, where it has a run at all; the play computes none
abbrev pub AreOfSuspects : Program → List Line → Type 0
AreOfSuspects points lines = (verdicts : List Verdict) → HasVerdicts points verdicts → StartsRight points →
    All (IsOfSuspect verdicts) lines

-- the status by whether a line tells of a race
abbrev pub status_of_race : Bool → Status
status_of_race raced = if raced then status.Suspects else status.Clean

-- the text is that of lines
pub record TellsLines (files : List (List ℕ)) (points : Program) (turns : List Turn) (text : List ℕ)
    (ends : Status) : Type 0 where
  pub lines : List Line
  pub play : IsPlay points turns lines
  pub text_is : text ≡ lines_text files points lines
  pub status : ends ≡ status_of_race (has_race lines)
  pub suspects : AreOfSuspects points lines

-- the text is a play of the points of the program by these turns
abbrev pub IsPlayed : List Turn → code.Accepted → List ℕ → Status → Type 0
IsPlayed turns sources text ends =
    IsToldOf sources (λ points. TellsLines sources.files points turns text ends)
