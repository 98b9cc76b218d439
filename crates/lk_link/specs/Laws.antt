-- What is asked of checked sources holds of each typed tree. It is the contract of a function.
use Rattle.std.specs.Prelude.{List}
use Rattle.lk_tree.specs.declared.statement.Unit.{Unit}
use Rattle.lk_typed.specs.Env.{Name}
use Rattle.lk_typed.specs.TypedUnits.{IsTypedUnit}
use Rattle.lk_typed.specs.declared.unit.TypedUnit.{TypedUnit}
use Rattle.lk_link.specs.Sources.{IsSource}

abbrev pub TypedUnitsAreSources : Type 0
TypedUnitsAreSources = (externs : List Name) (unit : Unit) (typed : TypedUnit) →
    IsTypedUnit externs unit typed → IsSource typed
