-- What was found of a source without a fault, whose typed tree is made.
use Rattle.std.specs.Prelude.{◌≡◌, List, None}
use Rattle.lk_tree.specs.Numbers.{numbered}
use Rattle.lk_tree.specs.declared.statement.Unit.{Unit}
use Rattle.lk_typed.specs.Env.{Name}
use Rattle.lk_checker.specs.Sources.{IsBehind, RecordsOf, TellsFirst}
use Rattle.lk_checker.specs.declared.checker.Checked.{Checked}

-- it is true of the source, whose nodes have their numbers, where --externs lists these names
pub record IsCheckedOf (externs : List Name) (unit : Unit) (checked : Checked) : Type 0 where
  pub before : Unit
  pub numbers : unit ≡ numbered before
  pub faultless : TellsFirst externs unit None
  pub records : RecordsOf externs unit checked.types checked.records
  pub behind : IsBehind externs unit checked
