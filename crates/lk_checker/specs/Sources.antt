-- What is told of a source that is checked: what was found of its nodes, what is known behind it,
-- and its first fault (C99 6.9).
use Rattle.std.specs.Prelude.{ℕ, ◌≡◌, Option, Some, None, List, slice_get}
use Rattle.std.specs.HashSet.{contains_by}
use Rattle.lk_base.specs.declared.refusal.Refusal.{Refusal}
use Rattle.lk_tree.specs.declared.expression.Expr.{Expr}
use Rattle.lk_tree.specs.declared.statement.Unit.{Unit}
use Rattle.lk_types.specs.Table.{Table}
use Rattle.lk_typed.specs.Env.{Env, Declared, Name, is_name, is_one_of}
use Rattle.lk_typed.specs.Faults.{Fault}
use Rattle.lk_typed.specs.Nodes.{Node}
use Rattle.lk_typed.specs.Stands.{IsIn as IsAmong}
use Rattle.lk_typed.specs.Structs.{IsTagOf}
use Rattle.lk_typed.specs.Units as units
use Rattle.lk_typed.specs.Units.{IsFaultOf, IsFirstFault, defined_in}
use Rattle.lk_typed.specs.declared.entity.Use.{Use}
use Rattle.lk_typed.specs.declared.unit.StructTag.{StructTag}
use Rattle.lk_names.specs.InScope.{IsKnownScope, env_in}
use Rattle.lk_found.specs.Findings.{IsOfExpression, IsOfInitialiser, IsOfName, IsOfTypeName, refusal_of}
use Rattle.lk_found.specs.Recorded.{Recorded}
use Rattle.lk_found.specs.Structs.{AreListed}
use Rattle.lk_found.specs.Truth.{IsSoInside}
use Rattle.lk_found.specs.Uses.{HasUses, IsOfUse, IsOfWord, taken_in, word_in}
use Rattle.lk_checker.specs.declared.checker.Checked.{Checked}
use Rattle.lk_checker.specs.declared.checker.Outside.{Outside}

-- ---- what is recorded of a source

-- each entry is true of a node of the source
abbrev pub AreTrue : {V : Type 0} → List Name → Unit → (ℕ → V → Env → Node → Type 0) → List (ℕ × V) → Type 0
AreTrue {V} externs unit IsTrue entries = (n : ℕ) (v : V) → IsAmong (n, v) entries →
    IsSoInside (units.at_end externs unit) (units.externals externs unit) (IsTrue n v)

-- the first expressions that speak of names are of the source, and each that speaks of one is recorded or a
-- later one; `spoken_of` gives the name of which an expression speaks
pub record AreUses (externs : List Name) (unit : Unit) (spoken_of : Env → Expr → Option Declared)
    (uses : List (ℕ × Use)) : Type 0 where
  pub truth : AreTrue externs unit (IsOfUse spoken_of) uses
  pub each : HasUses spoken_of (units.at_end externs unit) (units.externals externs unit) uses

-- it is what was found of expressions, type names, initialisers, declared names and structs of the source
pub record RecordsOf (externs : List Name) (unit : Unit) (table : Table) (records : Recorded) : Type 0 where
  pub founds : AreTrue externs unit (IsOfExpression table) records.founds
  pub named : AreTrue externs unit (IsOfTypeName table) records.named
  pub meant : AreTrue externs unit (IsOfWord table) records.meant
  pub initialisers : AreTrue externs unit (IsOfInitialiser table) records.initialisers
  pub uses : AreUses externs unit word_in records.first_uses
  pub taken : AreUses externs unit taken_in records.taken
  pub declared : AreTrue externs unit (IsOfName table) records.declared
  pub tags : (s : ℕ) (tag : StructTag) → slice_get records.tags s ≡ Some tag → IsTagOf externs unit s tag

-- the functions that the source defines, and the names that --externs lists
pub record IsOutsideOf (outside : Outside) (externs : List Name) (unit : Unit) : Type 0 where
  pub defined : (name : Name) →
      is_one_of (defined_in unit.externals) name ≡ contains_by (is_name name) outside.defined
  pub listed : (name : Name) → is_one_of externs name ≡ contains_by (is_name name) outside.externs

-- what is known behind a source: what is in scope there, with its structs, and what was known before it
pub record IsBehind (externs : List Name) (unit : Unit) (checked : Checked) : Type 0 where
  pub scope : env_in checked.types (units.at_end externs unit) checked.names ≡ units.at_end externs unit
  pub known : IsKnownScope checked.types checked.names
  pub structs : AreListed checked.types checked.names.structs
  pub outside : IsOutsideOf checked.outside externs unit

-- ---- its first fault

-- the refusal by the least fault of a source; none exactly where it has no fault
abbrev pub TellsFirst : List Name → Unit → Option Refusal → Type 0
TellsFirst externs unit None = (f : Fault) → IsFaultOf externs unit f → ⊥
TellsFirst externs unit (Some refusal) = (f : Fault) × IsFirstFault externs unit f × (refusal ≡ refusal_of f)
