-- The reports and refusals of commands.
use Rattle.std.specs.Prelude.{ℕ, ◌≡◌, Bool, true, false, if◌then◌else◌, List}
use Rattle.std.specs.List.{list_any}
use Rattle.lk_base.specs.declared.refusal.Refusal.{Refusal}
use Rattle.lk_base.specs.declared.status.Status.{Status}
use Rattle.lk_base.specs.declared.status.Status.TheVariants as status
use Rattle.lk_facts.specs.declared.verdict.Verdict.{Verdict}
use Rattle.lk_facts.specs.declared.verdict.VerdictState.{VerdictState}
use Rattle.lk_facts.specs.declared.verdict.VerdictState.TheVariants.{Guarded, Unshared, Suspect}
use Rattle.lk_sources.specs.declared.accepting.Accepted as code
use Rattle.lk_top.specs.Analysis.{IsAnalysed, IsNoProgramIn}
use Rattle.lk_top.specs.Outcome.{Accepted, Checks, Errand, Orders, Outcome, Plays, Refused}
use Rattle.lk_top.specs.Orders.{IsOrdered}
use Rattle.lk_top.specs.Plays.{IsPlayed}

abbrev pub is_suspect : VerdictState → Bool
is_suspect Guarded = false
is_suspect Unshared = false
is_suspect Suspect = true

-- whether some location is suspect
abbrev pub has_suspect : List Verdict → Bool
has_suspect verdicts = list_any (λ v. is_suspect v.state) verdicts

-- the status of verdicts
abbrev pub status_of : List Verdict → Status
status_of verdicts = if has_suspect verdicts then status.Suspects else status.Clean

-- the report is written
abbrev pub is_report : Status → Bool
is_report status.Clean = true
is_report status.Suspects = true
is_report status.Refused = false
is_report status.Usage = false
is_report status.ReadFault = false
is_report status.WriteFault = false
is_report status.NoMemory = false

-- ---- what an outcome shows, where `Gives` says which outcomes there are

-- the report of sources that are accepted, with the status of its verdicts
pub record IsChecked (sources : code.Accepted) (text : List ℕ) (ends : Status) : Type 0 where
  pub verdicts : List Verdict
  pub analysed : IsAnalysed sources text verdicts
  pub status : ends ≡ status_of verdicts

-- the text of an errand, with its status
abbrev pub IsAnswered : Errand → code.Accepted → List ℕ → Status → Type 0
IsAnswered Checks sources text ends = IsChecked sources text ends
IsAnswered Orders sources text ends = IsOrdered sources text ends
IsAnswered (Plays turns) sources text ends = IsPlayed turns sources text ends

-- the text of sources that are accepted
pub record IsReport (Gives : Outcome → Type 0) (text : List ℕ) (ends : Status) : Type 0 where
  pub errand : Errand
  pub sources : code.Accepted
  pub gives : Gives (Accepted errand sources)
  pub answered : IsAnswered errand sources text ends

-- a refusal: of sources, or of the program that accepted sources make
pub data IsRefusal (Gives : Outcome → Type 0) (file : List ℕ) (refusal : Refusal) : Type 0 where
  of_sources : Gives (Refused file refusal) → IsRefusal Gives file refusal
  of_program : (errand : Errand) (sources : code.Accepted) → Gives (Accepted errand sources) →
      IsNoProgramIn sources file refusal → IsRefusal Gives file refusal
