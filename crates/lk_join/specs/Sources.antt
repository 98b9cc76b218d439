-- The sources of a program with their numbers.
use Rattle.std.specs.Prelude.{◌≡◌, ◌≤◌, ℕ, List, [], All, length, map, slice_get, unwrap_or}
use Rattle.lk_link.specs.Sources.{Units}
use Rattle.lk_link.specs.declared.place.StructOf.{StructOf}
use Rattle.lk_typed.specs.declared.whole.Linked.{Linked}
use Rattle.lk_types.specs.Building.{IsTable}
use Rattle.lk_types.specs.Predeclared.{HasPredeclared}
use Rattle.lk_types.specs.Table.{Table}
use Rattle.lk_join.specs.Classes.{AreNumbers}
use Rattle.lk_join.specs.Completing.{HasMembers}
use Rattle.lk_join.specs.Forms.{AreRowsOf, HasPointer}

-- the number of a struct of a source in the program
abbrev pub number_in : List (List ℕ) → StructOf → ℕ
number_in structs s = unwrap_or (slice_get (unwrap_or (slice_get structs s.source) []) s.number) 0

-- sources with these numbers of their types and entities in the program
pub record AreLinked (units : Units) (types entities : List (List ℕ)) (sources : List Linked) : Type 0 where
  pub units_are : map (λ linked. linked.unit) sources ≡ units
  pub types_are : map (λ linked. linked.types) sources ≡ types
  pub entities_are : map (λ linked. linked.entities) sources ≡ entities

-- the types of these sources in a table, and the numbers that they have there
pub record AreTypesOf (units : Units) (table : Table) (rows : List (List ℕ)) : Type 0 where
  pub structs : List (List ℕ)
  pub count : ℕ
  pub numbers : AreNumbers units structs count
  pub within : count ≤ length table.members
  pub put : AreRowsOf units structs table rows (length units)
  pub members : HasMembers units structs rows table
  pub table_is : IsTable table
  pub predeclared : HasPredeclared table
  pub pointers : All (All (HasPointer table)) rows
