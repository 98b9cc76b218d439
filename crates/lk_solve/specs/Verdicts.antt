-- The verdicts of a program, from its points alone.
use Rattle.std.specs.Prelude.{List}
use Rattle.lk_facts.specs.Analysis.{AreVerdictsOf}
use Rattle.lk_facts.specs.EdgeRules.{AreEdges}
use Rattle.lk_facts.specs.Facts.{basis_of, facts_of}
use Rattle.lk_facts.specs.LabelRules.{AreLabels}
use Rattle.lk_facts.specs.Labels.{LabelTable, AreLabelsInRange}
use Rattle.lk_facts.specs.Origins.{OriginTable, flow_of}
use Rattle.lk_facts.specs.PathTables.{IsFlowOf}
use Rattle.lk_facts.specs.declared.edge.Edge.{Edge}
use Rattle.lk_facts.specs.declared.program.Program.{Program}
use Rattle.lk_facts.specs.declared.verdict.Verdict.{Verdict}
use Rattle.lk_label.specs.declared.fault.LabelFault.{LabelFault}
use Rattle.lk_label.specs.declared.fault.LabelFault.TheVariants as label
use Rattle.lk_solve.specs.declared.fault.SolveFault.{SolveFault}
use Rattle.lk_solve.specs.declared.fault.SolveFault.TheVariants as fault

-- what flows to the labels of a program along its edges
pub record HasFlow (program : Program) (labels : LabelTable) (origins : OriginTable) : Type 0 where
  pub edges : List Edge
  pub are_edges : AreEdges program labels.names edges
  pub flow : IsFlowOf edges labels (flow_of origins)

-- its labels, what flows to them, and the verdicts that follow
pub record HasVerdicts (program : Program) (verdicts : List Verdict) : Type 0 where
  pub labels : LabelTable
  pub are_labels : AreLabels program labels
  pub in_range : AreLabelsInRange labels
  pub origins : OriginTable
  pub flow : HasFlow program labels origins
  pub follow : AreVerdictsOf (basis_of (facts_of program labels origins)) verdicts

abbrev pub fault_of : LabelFault → SolveFault
fault_of label.TooMany = fault.TooManyLabels
fault_of label.NoMemory = fault.NoMemory
