-- What the rules rest on.
use Rattle.lk_facts.specs.Flow.{Flow}
use Rattle.lk_facts.specs.Labels.{LabelTable}
use Rattle.lk_facts.specs.declared.program.Program.{Program}

-- a program, its labels, and what may flow where
pub record Basis : Type 0 where
  pub program : Program
  pub labels : LabelTable
  pub flow : Flow
