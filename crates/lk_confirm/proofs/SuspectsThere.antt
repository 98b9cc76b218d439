-- Suspect locations are there, as verdicts are.
use Rattle.std.proofs.Common.{◌<◌, ℕ, Bool, true, false, List, [], ◌∷◌, All, if◌then◌else◌, length}
use Rattle.std.proofs.lemmas.List.Elements.{All-append, All-cons, All-head, All-nil, All-tail}
use Rattle.lk_facts.specs.declared.program.Program.{Program}
use Rattle.lk_facts.specs.declared.verdict.Verdict.{Verdict}
use Rattle.lk_report.specs.Report.{IsVerdictThere}
use Rattle.lk_confirm.specs.Analysis.{is_suspect, suspect_of, suspects_of}

module _ (program : Program) where
  abbrev IsThere : ℕ → Type 0
  IsThere n = n < length program.places

  one_there : (v : Verdict) → IsVerdictThere program v → All IsThere (suspect_of v)
  one_there v there = by (is_suspect v.state)
    where
      by : (b : Bool) → All IsThere (if b then v.location ∷ [] else [])
      by true = All-cons IsThere v.location [] there.location (All-nil IsThere)
      by false = All-nil IsThere

  pub suspects_there : (verdicts : List Verdict) → All (IsVerdictThere program) verdicts → All IsThere (suspects_of verdicts)
  suspects_there [] all = All-nil IsThere
  suspects_there (v ∷ verdicts) all =
      All-append IsThere (suspect_of v) (suspects_of verdicts) (one_there v (All-head (IsVerdictThere program) v verdicts all))
      (suspects_there verdicts (All-tail (IsVerdictThere program) v verdicts all))
