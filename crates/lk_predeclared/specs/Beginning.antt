-- What is declared before a source is checked.
use Rattle.lk_types.specs.Table.{Table}
use Rattle.lk_names.specs.InScope.{InScope}
use Rattle.lk_predeclared.specs.Plain.{Grows}
use Rattle.lk_predeclared.specs.Scope.{AddsNames, all_declared}

-- what is predeclared is declared, and the table has the types of it
pub record Predeclares (table : Table) (scope : InScope) (later : Table) (new : InScope) : Type 0 where
  pub grows : Grows table later
  pub adds : AddsNames table scope later new all_declared
