-- The order in which the types of a table came: what an array holds by value stands
-- before it, member by member.
use Rattle.std.specs.Prelude.{ℕ, ◌≡◌, ◌<◌, ◌≤◌, false, All, Some, length, slice_get}
use Rattle.lk_types.specs.Building.{types_of}
use Rattle.lk_types.specs.Table.{Table, is_open, members_of}
use Rattle.lk_types.specs.declared.c_type.CType.TheVariants.{Array, Struct}

-- the type is no struct, or one that was complete when there were so many types
abbrev pub IsDoneBy : Table → (done : ℕ → ℕ) → (count u : ℕ) → Type 0
IsDoneBy table done count u = (s : ℕ) → slice_get table.types u ≡ Some (Struct s) → done s ≤ count

-- how many types there were when each struct was completed: those of its members, whose structs were complete
pub record AreDone (table : Table) (done : ℕ → ℕ) : Type 0 where
  pub few : (s : ℕ) → is_open table s ≡ false → done s ≤ length table.types
  pub members : (s : ℕ) → is_open table s ≡ false → All (λ u. u < done s) (types_of (members_of table s))
  pub inside : (s : ℕ) → is_open table s ≡ false →
      All (IsDoneBy table done (done s)) (types_of (members_of table s))

-- an array of structs came when they were complete
pub record IsOrdered (table : Table) : Type 0 where
  pub done : ℕ → ℕ
  pub are : AreDone table done
  pub elements : (t u n : ℕ) → slice_get table.types t ≡ Some (Array u n) → IsDoneBy table done t u
