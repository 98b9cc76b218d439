-- The races of a play are at locations that verdicts call suspect, since the states of a play are those of a run.
use Rattle.std.proofs.Common.{List, [], ◌∷◌}
use Rattle.std.proofs.lemmas.List.Elements.{All-cons, All-head, All-nil, All-tail}
use Rattle.std.specs.List.{All}
use Rattle.lk_birth.specs.Begins.{StartsRight}
use Rattle.lk_facts.specs.InRange.{IsInRange}
use Rattle.lk_facts.specs.Lowered.{IsLowered}
use Rattle.lk_facts.specs.declared.program.Program.{Program}
use Rattle.lk_facts.specs.declared.verdict.Verdict.{Verdict}
use Rattle.lk_play.specs.Played.{IsTrueRace}
use Rattle.lk_play.specs.declared.lines.Line.{Line}
use Rattle.lk_play.specs.declared.lines.Line.TheVariants.{Access, Race, End}
use Rattle.lk_safe.specs.Soundness.{HasNoOtherRaces, VerdictsAreSafe}
use Rattle.lk_top.specs.Plays.{AreOfSuspects, IsOfSuspect}
use Rattle.lk_top.proofs.SafeReports.{no_other_races}
use Rattle.lk_types.specs.Building.{IsTable}

module _ (points : Program) (verdicts : List Verdict) (safe : HasNoOtherRaces points verdicts) (begins : StartsRight points) where
  of_suspect : (line : Line) → IsTrueRace points line → IsOfSuspect verdicts line
  of_suspect (Access t writes n p) is = tt
  of_suspect (Race n) is = λ verdict there.
      safe is.state (record { begins = begins; args = []; choices = is.choices; run = is.run }) is.raced.cell is.raced.race n is.raced.of verdict there
  of_suspect (End ending) is = tt

  all_of_suspects : (lines : List Line) → All (IsTrueRace points) lines → All (IsOfSuspect verdicts) lines
  all_of_suspects [] all = All-nil (IsOfSuspect verdicts)
  all_of_suspects (line ∷ lines) all =
      All-cons (IsOfSuspect verdicts) line lines (of_suspect line (All-head (IsTrueRace points) line lines all)) (all_of_suspects lines (All-tail (IsTrueRace points) line lines all))

pub are_of_suspects : (points : Program) → IsInRange points → IsTable points.types → IsLowered points → VerdictsAreSafe → (lines : List Line) → All (IsTrueRace points) lines → AreOfSuspects points lines
are_of_suspects points in_range table lowered law lines all verdicts has begins = all_of_suspects points verdicts (no_other_races points verdicts in_range table lowered has law) begins lines all
