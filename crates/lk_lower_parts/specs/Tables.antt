-- Types that are put to the program's table.
use Rattle.std.specs.Prelude.{◌≡◌, ◌<◌, ◌++◌, ℕ, List, [], Some, length, slice_get, get_or}
use Rattle.lk_base.specs.declared.kind.Kind.TheVariants.{Char}
use Rattle.lk_lower_parts.specs.declared.types.ArgumentTypes.{ArgumentTypes}
use Rattle.lk_types.specs.Predeclared.{kind_id}
use Rattle.lk_types.specs.Table.{Table}
use Rattle.lk_types.specs.declared.c_type.CType.{CType}
use Rattle.lk_types.specs.declared.c_type.CType.TheVariants.{Array, Pointer}
use Rattle.lk_typed.specs.declared.whole.Linked.{Linked}

-- the types of one table, and more behind them
pub record HasMore (old new : Table) : Type 0 where
  pub more : List CType
  pub types : new.types ≡ old.types ++ more
  pub members : new.members ≡ old.members

-- of each of these types the pointer to it
pub record ArePointersTo (table : Table) (types row : List ℕ) : Type 0 where
  pub as_many : length row ≡ length types
  pub each : (t : ℕ) → t < length types →
      slice_get table.types (get_or row t 0) ≡ Some (Pointer (get_or types t 0))

-- the same of each type of each source
pub record ArePointerRows (table : Table) (sources : List Linked) (rows : List (List ℕ)) : Type 0 where
  pub as_many : length rows ≡ length sources
  pub each : (s : ℕ) (linked : Linked) → slice_get sources s ≡ Some linked →
      ArePointersTo table linked.types (get_or rows s [])

-- the arrays of the pointers to main's arguments and of their chars (C99 5.1.2.2.1)
pub record AreArgumentTypes (table : Table) (found : ArgumentTypes) : Type 0 where
  pub string : ℕ
  pub string_form : slice_get table.types string ≡ Some (Pointer (kind_id Char))
  pub strings_form : slice_get table.types found.strings ≡ Some (Array string 0)
  pub chars_form : slice_get table.types found.chars ≡ Some (Array (kind_id Char) 0)
