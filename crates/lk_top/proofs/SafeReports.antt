-- The verdicts that are reported are safe, and the races of runs are found: they are those of points that were lowered.
use Rattle.lk_facts.specs.Facts.{basis_of, facts_of}
use Rattle.lk_facts.specs.InRange.{IsInRange}
use Rattle.lk_facts.specs.Lowered.{IsLowered}
use Rattle.lk_facts.specs.declared.program.Program.{Program}
use Rattle.lk_facts.specs.declared.verdict.Verdict.{Verdict}
use Rattle.lk_right.specs.Laws.{IsAnalysed}
use Rattle.lk_safe.specs.Soundness.{HasNoOtherRaces, VerdictsAreSafe, VerdictsFindRaces}
use Rattle.lk_solve.specs.Verdicts.{HasVerdicts}
use Rattle.lk_top.specs.Analysis.{FindsEachRace}
use Rattle.lk_types.specs.Building.{IsTable}
use Rattle.std.proofs.Common.{List}

module _ (program : Program) (verdicts : List Verdict) (in_range : IsInRange program) (table : IsTable program.types) (lowered : IsLowered program) (has : HasVerdicts program verdicts) where
  -- the program is one that is analysed, with these labels and edges
  is_analysed : IsAnalysed program has.labels has.flow.edges
  is_analysed = record {
    table = table;
    in_range = in_range;
    lowered = lowered;
    labelled = has.are_labels;
    few_labels = has.in_range;
    joined = has.flow.are_edges;
  }

  pub no_other_races : VerdictsAreSafe → HasNoOtherRaces program verdicts
  no_other_races law = law (basis_of (facts_of program has.labels has.origins)) has.flow.edges is_analysed has.flow.flow verdicts has.follow

  pub finds_each_race : VerdictsFindRaces → FindsEachRace program verdicts has
  finds_each_race law = law (basis_of (facts_of program has.labels has.origins)) has.flow.edges is_analysed has.flow.flow verdicts has.follow
