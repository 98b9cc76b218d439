-- Sources that agree about the entities that they name: what one says of an entity may be told of what
-- others say (C99 6.2.7, 2; 6.9, 5).
use Rattle.std.specs.Prelude.{◌≡◌, ◌⊎◌, ◌≤◌, ℕ, List, None, Some, slice_get}
use Rattle.lk_link.specs.Clashes.{DiffersFrom, IsDefinedTwice}
use Rattle.lk_link.specs.Sources.{IsDefinition, Units}
use Rattle.lk_link.specs.declared.clash.Clash.{Clash}
use Rattle.lk_typed.specs.declared.entity.Entity.{Entity}
use Rattle.lk_typed.specs.declared.entity.Linkage.TheVariants.{External}
use Rattle.lk_typed.specs.declared.whole.WholeEntity.{WholeEntity}
use Rattle.lk_join.specs.Entities.{HaveOneName}

-- no two sources define one name, and none declares a name with different types
pub record AreAgreed (units : Units) : Type 0 where
  pub once : (clash : Clash) → IsDefinedTwice units clash → ⊥
  pub alike : (clash : Clash) → DiffersFrom units clash → ⊥

-- what a source says may be told of an entity that is there: both are functions or both objects, and
-- one of them is only declared
pub record MayTell (there is : WholeEntity) : Type 0 where
  pub kind : there.kind ≡ is.kind
  pub defined : (is.defined ≡ None) ⊎ (there.defined ≡ None)

-- and so of the one with this number
abbrev pub MayTellAt : List WholeEntity → ℕ → WholeEntity → Type 0
MayTellAt list number is = (there : WholeEntity) → slice_get list number ≡ Some there → MayTell there is

-- and so of the one that is there under its name
abbrev pub MayPut : List WholeEntity → WholeEntity → Type 0
MayPut list is = (n : ℕ) (there : WholeEntity) → slice_get list n ≡ Some there →
    HaveOneName there is → MayTell there is

-- the same of an entity of a source
pub record MayTellOf (entity : Entity) (there : WholeEntity) : Type 0 where
  pub kind : there.kind ≡ entity.kind
  pub defined : IsDefinition entity → there.defined ≡ None

abbrev pub Fits : List WholeEntity → Entity → Type 0
Fits list entity =
    (n : ℕ) (there : WholeEntity) → slice_get list n ≡ Some there → there.linkage ≡ External →
    entity.linkage ≡ External → there.name ≡ entity.name → MayTellOf entity there

-- and of the entities of a source from one on
abbrev pub FitFrom : List WholeEntity → List Entity → ℕ → Type 0
FitFrom list entities from = (e : ℕ) (entity : Entity) → from ≤ e →
    slice_get entities e ≡ Some entity → Fits list entity
