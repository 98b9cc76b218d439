-- The types of the members of structs, as a table lists them.
use Rattle.std.specs.Prelude.{ℕ, List, map}
use Rattle.lk_types.specs.Building.{types_of}
use Rattle.lk_types.specs.Table.{Table, members_of}
use Rattle.lk_typed.specs.Meaning.{meaning}
use Rattle.lk_typed.specs.Ty.{Ty}

-- the types of the members of each struct in a table
abbrev pub fields_listed : Table → ℕ → List Ty
fields_listed table s = map (meaning table) (types_of (members_of table s))
