-- What is lowered: a program that is put together of typed trees of sources.
use Rattle.std.specs.Prelude.{◌≡◌, All, List}
use Rattle.std.specs.List.{AllZip}
use Rattle.lk_join.specs.Program.{IsLinked}
use Rattle.lk_tree.specs.Numbers.{numbered}
use Rattle.lk_tree.specs.declared.statement.Unit.{Unit}
use Rattle.lk_typed.specs.Env.{Name}
use Rattle.lk_typed.specs.TypedUnits.{IsTypedUnit}
use Rattle.lk_typed.specs.declared.unit.TypedUnit.{TypedUnit}
use Rattle.lk_typed.specs.declared.whole.Whole.{Whole}

-- the nodes of a source have their numbers
abbrev pub IsNumbered : Unit → Type 0
IsNumbered tree = (before : Unit) × (tree ≡ numbered before)

-- the typed trees of these sources, where --externs lists these names, are put together
pub record IsOfSources (whole : Whole) : Type 0 where
  pub externs : List Name
  pub trees : List Unit
  pub numbers : All IsNumbered trees
  pub units : List TypedUnit
  pub typed : AllZip (IsTypedUnit externs) trees units
  pub linked : IsLinked units externs whole
