-- What lowering asks of a program: that it has what its sources name. Each program that is put
-- together of checked sources has it.
use Rattle.std.specs.Prelude.{◌≡◌, ◌<◌, ℕ, Some, length, slice_get}
use Rattle.lk_lower_expr.specs.Lowering.{declaration_of}
use Rattle.lk_lower_parts.specs.Sources.{defined_of}
use Rattle.lk_typed.specs.declared.entity.Declaration.{Declaration}
use Rattle.lk_typed.specs.declared.entity.Entity.{Entity}
use Rattle.lk_typed.specs.declared.unit.Body.{Body}
use Rattle.lk_typed.specs.declared.whole.Linked.{Linked}
use Rattle.lk_typed.specs.declared.whole.Whole.{Whole}
use Rattle.lk_typed.specs.declared.whole.WholeEntity.{WholeEntity}
use Rattle.lk_types.specs.Table.{IsKnown}

-- ---- entities of a source

-- the source has the entity, and a declaration of it that counts
pub record IsDeclaredHere (linked : Linked) (e : ℕ) : Type 0 where
  pub entity : Entity
  pub at : slice_get linked.unit.entities e ≡ Some entity
  pub by : Declaration
  pub declared : declaration_of entity ≡ Some by

-- the program keeps that the source `s` defines the entity, with a type of its own
pub record IsKeptHere (whole : Whole) (s : ℕ) (linked : Linked) (e : ℕ) : Type 0 where
  pub number : ℕ
  pub numbered : slice_get linked.entities e ≡ Some number
  pub here : WholeEntity
  pub is : slice_get whole.entities number ≡ Some here
  pub there : here.defined ≡ Some (s, e)
  pub known : IsKnown whole.types here.ty

pub record IsEntityOf (whole : Whole) (s : ℕ) (linked : Linked) (e : ℕ) : Type 0 where
  pub declared : IsDeclaredHere linked e
  pub kept : IsKeptHere whole s linked e

-- each body of a source is that of one of its entities
abbrev pub HaveEntities : Linked → Type 0
HaveEntities linked = (b : ℕ) (body : Body) → slice_get linked.unit.bodies b ≡ Some body →
    body.entity < length linked.unit.entities

-- ---- main

-- the entity of a source is the program's `main`
pub record IsMainAt (whole : Whole) (s e : ℕ) : Type 0 where
  pub linked : Linked
  pub at : slice_get whole.sources s ≡ Some linked
  pub numbered : slice_get linked.entities e ≡ Some whole.main
  pub declared : IsDeclaredHere linked e

-- a source defines it
pub record HasMain (whole : Whole) : Type 0 where
  pub source : ℕ
  pub number : ℕ
  pub defined : defined_of whole whole.main ≡ Some (source, number)
  pub is : IsMainAt whole source number

-- ---- the program

pub record IsWhole (whole : Whole) : Type 0 where
  -- each body is that of an entity which its source defines
  pub bodies : (s b : ℕ) (linked : Linked) (body : Body) → slice_get whole.sources s ≡ Some linked →
      slice_get linked.unit.bodies b ≡ Some body → IsEntityOf whole s linked body.entity
  pub main : HasMain whole
