-- What the numbers of a typed tree stand for in its unit: its types, its entities, and the locals of the
-- body in which a node stands.
use Rattle.std.specs.Prelude.{ℕ, ◌≡◌, List, Some, slice_get}
use Rattle.std.specs.List.{Contains}
use Rattle.lk_types.specs.declared.c_type.CType.{CType}
use Rattle.lk_typed.specs.declared.entity.Declaration.{Declaration}
use Rattle.lk_typed.specs.declared.entity.Entity.{Entity}
use Rattle.lk_typed.specs.declared.unit.Local.{Local}

pub record Tables : Type 0 where
  pub types : List CType
  pub entities : List Entity
  -- none outside bodies
  pub locals : List Local

-- the entity has a declaration at the node with this number
abbrev pub IsDeclaredBy : Entity → ℕ → Type 0
IsDeclaredBy entity ordinal = (is : Declaration) × Contains entity.declarations is × (is.ordinal ≡ ordinal)

module _ (tables : Tables) where
  -- the entity with the number e
  abbrev pub IsEntityAt : (ordinal e : ℕ) → Type 0
  IsEntityAt ordinal e =
      (entity : Entity) × (slice_get tables.entities e ≡ Some entity) × IsDeclaredBy entity ordinal

  -- the local with the number l
  pub record IsLocalAt (ordinal l : ℕ) (local : Local) : Type 0 where
    pub at : slice_get tables.locals l ≡ Some local
    pub by : local.ordinal ≡ ordinal
