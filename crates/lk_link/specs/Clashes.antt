-- Why sources make no program together: the codes 60 to 63, and which of several is answered.
use Rattle.std.specs.Prelude.{◌≡◌, ◌↔◌, ◌<◌, ◌⊎◌, ℕ, true, List, Some, None, codes, slice_get, All}
use Rattle.std.specs.List.{Any, Contains}
use Rattle.lk_base.specs.Code.{number_of}
use Rattle.lk_base.specs.declared.code.Code.TheVariants.{DefinedTwice, TypesDiffer, NotDefined}
use Rattle.lk_link.specs.Sources.{Units, IsEntity, Declares, IsDefinedIn, IsFirstDefinition, IsUsed, IsDefinition, ComesBefore}
use Rattle.lk_link.specs.Structs.{AreDeclaredAlike, types_in}
use Rattle.lk_link.specs.declared.clash.Clash.{Clash}
use Rattle.lk_link.specs.declared.place.TypeOf.{TypeOf}
use Rattle.lk_typed.specs.Library.{LibraryFunction, library_function, type_of_function}
use Rattle.lk_typed.specs.Ty.{Ty, Means, is_redeclarable}
use Rattle.lk_typed.specs.declared.entity.Declaration.{Declaration}
use Rattle.lk_typed.specs.declared.entity.Entity.{Entity}
use Rattle.lk_typed.specs.declared.entity.EntityKind.TheVariants.{Function}
use Rattle.lk_typed.specs.declared.entity.Linkage.TheVariants as linkage
use Rattle.lk_typed.specs.declared.entity.Use.{Use}
use Rattle.lk_typed.specs.declared.unit.TypedUnit.{TypedUnit}

-- a function `main` of external linkage that its source defines (C99 5.1.2.2.1)
pub record IsMain (entity : Entity) : Type 0 where
  pub is_function : entity.kind ≡ Function
  pub external : entity.linkage ≡ linkage.External
  pub named : entity.name ≡ codes "main"
  pub defined : IsDefinition entity

-- 60 holds where no source has one
abbrev pub HasMain : Units → Type 0
HasMain units = Any (λ unit. Any IsMain unit.entities) units

-- one clash is told before another: by the place of the source, the number of the node, and that of the code
abbrev pub IsToldBefore : Clash → Clash → Type 0
IsToldBefore a b =
    ComesBefore a.source a.ordinal b.source b.ordinal
    ⊎ ((a.source ≡ b.source) × (a.ordinal ≡ b.ordinal) × (number_of a.code < number_of b.code))

-- one of these clashes, and none of them is told before it
pub record IsFirstOf (clashes : List Clash) (first : Clash) : Type 0 where
  pub among : Contains clashes first
  pub first_is : All (λ other. IsToldBefore other first → ⊥) clashes

-- 63 of a function of internal linkage: it is used and its source doesn't define it; it stands
-- at its first use (C99 6.9, 3)
pub record IsMissingHere (entity : Entity) (clash : Clash) : Type 0 where
  pub named : entity.name ≡ clash.name
  pub internal : entity.linkage ≡ linkage.Internal
  pub is_function : entity.kind ≡ Function
  pub use_ : Use
  pub used : entity.first_use ≡ Some use_
  pub undefined : IsDefinition entity → ⊥
  pub ordinal : clash.ordinal ≡ use_.ordinal
  pub spot : clash.spot ≡ use_.spot
  pub code : clash.code ≡ NotDefined

abbrev pub IsInsideSource : ℕ → List Entity → Clash → Type 0
IsInsideSource source entities clash =
    (clash.source ≡ source) × Any (λ entity. IsMissingHere entity clash) entities

abbrev pub IsMissingInside : Units → Clash → Type 0
IsMissingInside units clash =
    (unit : TypedUnit) × (slice_get units clash.source ≡ Some unit)
    × Any (λ entity. IsMissingHere entity clash) unit.entities

-- a list of clashes has those that it had, and these
abbrev pub HaveGained : (old new : List Clash) → (Clash → Type 0) → Type 0
HaveGained old new Is = (clash : Clash) → Contains new clash ↔ (Contains old clash ⊎ Is clash)

module _ (units : Units) where
  -- 61: an earlier source defines the name too (C99 6.9, 5); it stands at the first
  -- definition of the later source
  pub record IsDefinedTwice (clash : Clash) : Type 0 where
    pub earlier : ℕ
    pub before : earlier < clash.source
    pub there : IsDefinedIn units earlier clash.name
    pub again : Declaration
    pub here : IsFirstDefinition units clash.source clash.name again
    pub ordinal : clash.ordinal ≡ again.ordinal
    pub spot : clash.spot ≡ again.spot
    pub code : clash.code ≡ DefinedTwice

  abbrev declared_type : ℕ → Declaration → TypeOf
  declared_type s declaration = record { source = s; number = declaration.ty }

  -- 62: an earlier declaration of the name has another type (C99 6.2.7, 2)
  pub record DiffersFrom (clash : Clash) : Type 0 where
    pub other_source : ℕ
    pub other : Declaration
    pub there : Declares units other_source clash.name other
    pub later : Declaration
    pub here : Declares units clash.source clash.name later
    pub before : ComesBefore other_source other.ordinal clash.source later.ordinal
    pub differ : AreDeclaredAlike units (declared_type other_source other)
        (declared_type clash.source later) → ⊥
    pub ordinal : clash.ordinal ≡ later.ordinal
    pub spot : clash.spot ≡ later.spot
    pub code : clash.code ≡ TypesDiffer

  -- 62: the library has a function of the name, with another type (C99 7.1.3, 7.1.4). What differs so at file
  -- scope is told before sources are put together
  pub record DiffersFromLibrary (clash : Clash) : Type 0 where
    pub function : LibraryFunction
    pub there : library_function clash.name ≡ Some function
    pub later : Declaration
    pub here : Declares units clash.source clash.name later
    pub differ : (type : Ty) → Means (types_in units clash.source) later.ty type →
        is_redeclarable type (type_of_function function) ≡ true → ⊥
    pub ordinal : clash.ordinal ≡ later.ordinal
    pub spot : clash.spot ≡ later.spot
    pub code : clash.code ≡ TypesDiffer

  module _ (externs : List (List ℕ)) where
    -- the library has a function of this name (C99 7, POSIX pthread.h), or the list
    -- of extern functions names it
    abbrev pub IsElsewhere : List ℕ → Entity → Type 0
    IsElsewhere name entity =
        (library_function name ≡ None → ⊥) ⊎ ((entity.kind ≡ Function) × Contains externs name)

    -- 63: a name of external linkage is used that no source defines, nor anything else; it stands at its
    -- first use, in the order of the sources
    pub record IsMissing (clash : Clash) : Type 0 where
      pub number : ℕ
      pub entity : Entity
      pub of : IsEntity units clash.source number entity
      pub named : entity.name ≡ clash.name
      pub external : entity.linkage ≡ linkage.External
      pub use_ : Use
      pub used : entity.first_use ≡ Some use_
      pub first : (s : ℕ) (other : Use) → s < clash.source → IsUsed units s clash.name other → ⊥
      pub nowhere : (s : ℕ) → IsDefinedIn units s clash.name → ⊥
      pub elsewhere : IsElsewhere clash.name entity → ⊥
      pub ordinal : clash.ordinal ≡ use_.ordinal
      pub spot : clash.spot ≡ use_.spot
      pub code : clash.code ≡ NotDefined

    -- the codes 61 to 63
    pub data IsClash (clash : Clash) : Type 0 where
      defined_twice : IsDefinedTwice clash → IsClash clash
      types_differ : DiffersFrom clash → IsClash clash
      library_differs : DiffersFromLibrary clash → IsClash clash
      missing : IsMissing clash → IsClash clash
      missing_inside : IsMissingInside units clash → IsClash clash

    -- the clash that is told where there is a `main`: no other comes before it
    abbrev pub IsFirstClash : Clash → Type 0
    IsFirstClash clash = IsClash clash × ((other : Clash) → IsClash other → IsToldBefore other clash → ⊥)
