-- What the typed tree of an accepted source is made of.
use Rattle.std.specs.Prelude.{◌≡◌, List}
use Rattle.lk_elaborate.specs.Checked.{IsCheckedOf}
use Rattle.lk_sources.specs.declared.checking.AcceptedSource.{AcceptedSource}
use Rattle.lk_tree.specs.Numbers.{numbered}
use Rattle.lk_tree.specs.declared.statement.Unit.{Unit}
use Rattle.lk_typed.specs.Elements.{HasFewElements}
use Rattle.lk_typed.specs.Env.{Name}
use Rattle.lk_typed.specs.Meaning.{IsReady}
use Rattle.lk_typed.specs.TypedUnits.{IsTypedUnit}
use Rattle.lk_typed.specs.declared.unit.TypedUnit.{TypedUnit}

-- a source's types are as its typed tree asks for them
abbrev pub HasReadyTypes : AcceptedSource → Type 0
HasReadyTypes source = IsReady source.checked.types × HasFewElements source.checked.types

-- the nodes of a source have their numbers
abbrev pub IsNumbered : AcceptedSource → Type 0
IsNumbered source = (before : Unit) × (source.parsed.unit ≡ numbered before)

-- a source comes to this typed tree, whatever names --externs lists
abbrev pub TypesSource : AcceptedSource → TypedUnit → Type 0
TypesSource source typed = (externs : List Name) → IsCheckedOf externs source.parsed.unit source.checked →
    IsTypedUnit externs source.parsed.unit typed
