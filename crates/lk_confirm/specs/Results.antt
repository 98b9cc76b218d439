-- The reports and refusals of commands.
use Rattle.std.specs.Prelude.{ℕ, Bool, true, false, List}
use Rattle.lk_base.specs.declared.refusal.Refusal.{Refusal}
use Rattle.lk_base.specs.declared.status.Status.{Status}
use Rattle.lk_base.specs.declared.status.Status.TheVariants as status
use Rattle.lk_sources.specs.declared.accepting.Accepted as code
use Rattle.lk_confirm.specs.Analysis.{IsConfirmed, IsNoProgramIn}
use Rattle.lk_confirm.specs.Outcome.{Outcome, Accepted, Refused}

-- the report is written
abbrev pub is_report : Status → Bool
is_report status.Clean = true
is_report status.Suspects = true
is_report status.Refused = false
is_report status.Usage = false
is_report status.ReadFault = false
is_report status.WriteFault = false
is_report status.NoMemory = false

-- ---- what an outcome shows, where `Gives` says which outcomes there are

-- what is told of sources that are accepted, with its status
pub record IsReport (Gives : Outcome → Type 0) (text : List ℕ) (ends : Status) : Type 0 where
  pub sources : code.Accepted
  pub gives : Gives (Accepted sources)
  pub confirmed : IsConfirmed sources text ends

-- a refusal, with the name of the file in which its place stands: of sources, or of the
-- program that accepted sources make
pub data IsRefusal (Gives : Outcome → Type 0) (file : List ℕ) (refusal : Refusal) : Type 0 where
  of_sources : Gives (Refused file refusal) → IsRefusal Gives file refusal
  of_program : (sources : code.Accepted) → Gives (Accepted sources) → IsNoProgramIn sources file refusal →
      IsRefusal Gives file refusal
