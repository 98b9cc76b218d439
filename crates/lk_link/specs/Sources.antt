-- The names of several sources: who declares them, who defines them, and where
-- they are used (C99 6.2.2, 6.9).
use Rattle.std.specs.Prelude.{◌≡◌, ◌<◌, ◌⊎◌, ℕ, List, Some, slice_get, ⊤, All, length}
use Rattle.std.specs.List.{Any}
use Rattle.lk_link.specs.EntityKinds.{HasOwnKind}
use Rattle.lk_link.specs.declared.place.StructOf.{StructOf}
use Rattle.lk_link.specs.declared.place.TypeOf.{TypeOf}
use Rattle.lk_typed.specs.declared.entity.Declaration.{Declaration}
use Rattle.lk_typed.specs.declared.entity.Defines.{Defines}
use Rattle.lk_typed.specs.declared.entity.Defines.TheVariants.{Nothing, Tentative, Whole}
use Rattle.lk_typed.specs.declared.entity.Entity.{Entity}
use Rattle.lk_typed.specs.declared.entity.Linkage.TheVariants as linkage
use Rattle.lk_typed.specs.declared.entity.Use.{Use}
use Rattle.lk_typed.specs.declared.unit.TypedUnit.{TypedUnit}
use Rattle.lk_types.specs.Table.{Table, IsKnown, members_of}

abbrev pub Units : Type 0
Units = List TypedUnit

-- the types of all members of structs are in the table
abbrev pub HasKnownMembers : Table → Type 0
HasKnownMembers types = (s : ℕ) → s < length types.members →
    All (λ member. IsKnown types member.ty) (members_of types s)

-- the types of all declarations are in the table
abbrev pub HasKnownDeclarations : Table → List Entity → Type 0
HasKnownDeclarations types entities =
    All (λ entity. All (λ declaration. IsKnown types declaration.ty) entity.declarations) entities

-- the types of all entities are in the table
abbrev pub HasKnownTypes : Table → List Entity → Type 0
HasKnownTypes types entities = All (λ entity. IsKnown types entity.ty) entities

-- each name of external linkage is one entity's (C99 6.2.2, 2)
abbrev pub HaveOwnNames : List Entity → Type 0
HaveOwnNames entities = (e f : ℕ) (a b : Entity) → slice_get entities e ≡ Some a →
    slice_get entities f ≡ Some b → a.linkage ≡ linkage.External → b.linkage ≡ linkage.External →
    a.name ≡ b.name → e ≡ f

-- what a checked source has: each struct has an entry for its tag, what members, declarations and entities
-- name are types of its table, and entities are functions or objects as their types say
pub record IsSource (unit : TypedUnit) : Type 0 where
  pub tags : length unit.structs ≡ length unit.types.members
  pub members : HasKnownMembers unit.types
  pub declared : HasKnownDeclarations unit.types unit.entities
  pub typed : HasKnownTypes unit.types unit.entities
  pub kinds : All (HasOwnKind unit.types) unit.entities
  pub names : HaveOwnNames unit.entities

abbrev pub AreSources : Units → Type 0
AreSources units = All IsSource units

-- it defines the name: a function by its body, an object by an initialiser or tentatively (C99 6.9.1, 6.9.2)
abbrev pub IsDefining : Defines → Type 0
IsDefining Nothing = ⊥
IsDefining Tentative = ⊤
IsDefining Whole = ⊤

-- a source that declares the entity defines it
abbrev pub IsDefinition : Entity → Type 0
IsDefinition entity = Any (λ declaration. IsDefining declaration.defines) entity.declarations

module _ (units : Units) where
  -- a struct of a source
  pub record IsStruct (s : StructOf) : Type 0 where
    pub unit : TypedUnit
    pub at : slice_get units s.source ≡ Some unit
    pub known : s.number < length unit.types.members

  -- a type of a source
  pub record IsTypeOf (t : TypeOf) : Type 0 where
    pub unit : TypedUnit
    pub at : slice_get units t.source ≡ Some unit
    pub known : IsKnown unit.types t.number

  -- the entity e of the source s
  pub record IsEntity (s e : ℕ) (is : Entity) : Type 0 where
    pub unit : TypedUnit
    pub at : slice_get units s ≡ Some unit
    pub stands : slice_get unit.entities e ≡ Some is

  -- a declaration of the name with external linkage, in the source s
  pub record Declares (s : ℕ) (name : List ℕ) (is : Declaration) : Type 0 where
    pub number : ℕ
    pub place : ℕ
    pub entity : Entity
    pub of : IsEntity s number entity
    pub named : entity.name ≡ name
    pub external : entity.linkage ≡ linkage.External
    pub at : slice_get entity.declarations place ≡ Some is

  -- one that defines it
  abbrev pub DefinesAt : (s : ℕ) → List ℕ → Declaration → Type 0
  DefinesAt s name is = Declares s name is × IsDefining is.defines

  abbrev pub IsDefinedIn : (s : ℕ) → List ℕ → Type 0
  IsDefinedIn s name = (is : Declaration) × DefinesAt s name is

  -- the first declaration of the source that defines it
  pub record IsFirstDefinition (s : ℕ) (name : List ℕ) (is : Declaration) : Type 0 where
    pub stands : DefinesAt s name is
    pub first : (other : Declaration) → DefinesAt s name other → (other.ordinal < is.ordinal) → ⊥

  -- an expression of the source s uses the name
  pub record IsUsed (s : ℕ) (name : List ℕ) (at : Use) : Type 0 where
    pub number : ℕ
    pub entity : Entity
    pub of : IsEntity s number entity
    pub named : entity.name ≡ name
    pub external : entity.linkage ≡ linkage.External
    pub first : entity.first_use ≡ Some at

-- one place of the sources stands before another: in an earlier source, or earlier in the text
abbrev pub ComesBefore : (s o t p : ℕ) → Type 0
ComesBefore s o t p = (s < t) ⊎ ((s ≡ t) × (o < p))
