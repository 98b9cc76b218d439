-- What comes of storing a type in a table.
use Rattle.std.specs.Prelude.{ℕ, ◌≡◌, Bool, true, Option, List, MatchOption}
use Rattle.lk_types.specs.Sizes.{is_over}
use Rattle.lk_types.specs.Table.{Table}
use Rattle.lk_typed.specs.Bounds.{size_of}
use Rattle.lk_typed.specs.Ty.{Ty}
use Rattle.lk_check_decl.specs.Composites.{Stands}
use Rattle.lk_check_decl.specs.Making.{AreFields}

-- whether a type is over one of the bounds of a table
abbrev pub IsOver : Table → Ty → Bool → Type 0
IsOver table tree over = (fields : ℕ → List Ty) → AreFields table fields →
    is_over (size_of fields tree) ≡ over

-- the type stands in the table, or is over one of the table's bounds
abbrev pub IsStored : Table → Table → Ty → Option ℕ → Type 0
IsStored old new tree answer = MatchOption answer (IsOver old tree true) (Stands new tree)
