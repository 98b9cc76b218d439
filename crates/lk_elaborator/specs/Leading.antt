-- What the numbers of a typed tree stand for while it is made, and how the state goes on.
use Rattle.std.specs.Prelude.{ℕ, ◌≡◌, ◌++◌, Option, Some, List, nat_eq}
use Rattle.std.specs.Map.{lookup}
use Rattle.lk_types.specs.Building.{IsLonger}
use Rattle.lk_types.specs.declared.c_type.CType.{CType}
use Rattle.lk_typed.specs.Meaning.{IsReady}
use Rattle.lk_typed.specs.Tables.{Tables, IsEntityAt, IsLocalAt}
use Rattle.lk_typed.specs.declared.unit.Local.{Local}
use Rattle.lk_elaborator.specs.declared.elaborator.Elaborator.{Elaborator}

-- the number of the entity that a node declares
abbrev pub entity_by : Elaborator → ℕ → Option ℕ
entity_by walk n = lookup (nat_eq n) walk.entities.by_ordinal.entries

-- the number of the local that a node declares
abbrev pub local_by : Elaborator → ℕ → Option ℕ
local_by walk n = lookup (nat_eq n) walk.locals.numbers.entries

-- the numbers of types, entities and locals that are given so far stand in these
-- tables for what they were given to
pub record Leads (walk : Elaborator) (tables : Tables) : Type 0 where
  pub types : (more : List CType) × (tables.types ≡ walk.types.types ++ more)
  pub entities : (n e : ℕ) → entity_by walk n ≡ Some e → IsEntityAt tables n e
  pub locals : (n l : ℕ) → local_by walk n ≡ Some l → (local : Local) × IsLocalAt tables n l local

-- types are added, and all else is as it was
pub record Grows (old new : Elaborator) : Type 0 where
  pub longer : IsLonger old.types new.types
  pub members : new.types.members ≡ old.types.members
  pub ready : IsReady old.types → IsReady new.types
  pub same : new ≡ record old { types = new.types }

-- types, entities and locals are added; what was found stays as it was
pub record GoesOn (old new : Elaborator) : Type 0 where
  pub longer : IsLonger old.types new.types
  pub members : new.types.members ≡ old.types.members
  pub ready : IsReady old.types → IsReady new.types
  pub entities : (n e : ℕ) → entity_by old n ≡ Some e → entity_by new n ≡ Some e
  pub locals : (n l : ℕ) → local_by old n ≡ Some l → local_by new n ≡ Some l
  pub records : new.records ≡ old.records
  pub names : new.names ≡ old.names
  pub outside : new.outside ≡ old.outside
