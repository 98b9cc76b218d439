-- What the numbers of types and entities stand for outside bodies, and how the state goes on from one
-- external declaration to the next: the locals of a body go with it.
use Rattle.std.specs.Prelude.{ℕ, ◌≡◌, ◌++◌, Some, List, []}
use Rattle.lk_types.specs.Building.{IsLonger}
use Rattle.lk_types.specs.declared.c_type.CType.{CType}
use Rattle.lk_typed.specs.Meaning.{IsReady}
use Rattle.lk_typed.specs.Tables.{IsEntityAt, Tables}
use Rattle.lk_typed.specs.declared.entity.Entity.{Entity}
use Rattle.lk_typed.specs.declared.unit.Local.{Local}
use Rattle.lk_elaborator.specs.Leading.{entity_by}
use Rattle.lk_elaborator.specs.declared.elaborator.Elaborator.{Elaborator}

abbrev pub tables_of : List CType → List Entity → List Local → Tables
tables_of types entities locals = record { types = types; entities = entities; locals = locals }

-- the numbers of types and entities that are given so far stand for what they were given to
pub record LeadsOutside (walk : Elaborator) (types : List CType) (list : List Entity) : Type 0 where
  pub longer : (more : List CType) × (types ≡ walk.types.types ++ more)
  pub entities : (n e : ℕ) → entity_by walk n ≡ Some e → IsEntityAt (tables_of types list []) n e

-- types and entities are added; what was found stays as it was
pub record GoesOutside (old new : Elaborator) : Type 0 where
  pub longer : IsLonger old.types new.types
  pub members : new.types.members ≡ old.types.members
  pub ready : IsReady old.types → IsReady new.types
  pub entities : (n e : ℕ) → entity_by old n ≡ Some e → entity_by new n ≡ Some e
  pub records : new.records ≡ old.records
  pub names : new.names ≡ old.names
  pub outside : new.outside ≡ old.outside
