-- The functions and objects of static storage of the program, while those of the sources
-- are put to them (C99 6.2.2).
use Rattle.std.specs.Prelude.{◌≡◌, ◌⊎◌, ◌<◌, ◌++◌, ℕ, List, [], ◌∷◌, Option, Some, None, if◌then◌else◌, length, nat_eq, slice_get, slice_set}
use Rattle.std.specs.Cmp.Lexicographic.{pointwise}
use Rattle.std.specs.Map.{lookup}
use Rattle.lk_link.specs.Sources.{ComesBefore, IsDefinition, IsEntity, Units}
use Rattle.lk_typed.specs.declared.entity.Entity.{Entity}
use Rattle.lk_typed.specs.declared.entity.Linkage.TheVariants.{External}
use Rattle.lk_typed.specs.declared.unit.TypedUnit.{TypedUnit}
use Rattle.lk_typed.specs.declared.whole.WholeEntity.{WholeEntity}
use Rattle.lk_join.specs.Forms.{IsHere}

-- each type of a source has its number in the program: `types` has the rows of the sources
abbrev pub HaveNumbers : Units → (types : List (List ℕ)) → Type 0
HaveNumbers units types = (s : ℕ) (unit : TypedUnit) (row : List ℕ) → slice_get units s ≡ Some unit →
    slice_get types s ≡ Some row → length unit.types.types ≡ length row

-- the program's entities so far, and of each name of external linkage the number of its entity
pub record Gathered : Type 0 where
  pub list : List WholeEntity
  pub names : List (List ℕ × ℕ)

abbrev pub number_named : List (List ℕ × ℕ) → List ℕ → Option ℕ
number_named names name = lookup (pointwise nat_eq name) names

-- the names of the entities of external linkage, each with the number of the one that has it
pub record AreNamed (entities : Gathered) : Type 0 where
  pub found : (name : List ℕ) (n : ℕ) → number_named entities.names name ≡ Some n →
      (is : WholeEntity) × (slice_get entities.list n ≡ Some is) × (is.linkage ≡ External) × (is.name ≡ name)
  pub all : (n : ℕ) (is : WholeEntity) → slice_get entities.list n ≡ Some is → is.linkage ≡ External →
      number_named entities.names is.name ≡ Some n

-- what a source says of an entity at a place there: that it defines it, or only declares it. `row` has the
-- program's numbers of its types
pub record IsSaid (row : List ℕ) (place : ℕ × ℕ) (entity : Entity) (is : WholeEntity) : Type 0 where
  pub name : is.name ≡ entity.name
  pub linkage : is.linkage ≡ entity.linkage
  pub kind : is.kind ≡ entity.kind
  pub type : IsHere row entity.ty is.ty
  pub defines : IsDefinition entity → is.defined ≡ Some place
  pub told : (is.defined ≡ None) ⊎ ((is.defined ≡ Some place) × IsDefinition entity)

-- two are one by their names: these have external linkage (C99 6.2.2, 2)
pub record HaveOneName (a b : WholeEntity) : Type 0 where
  pub first : a.linkage ≡ External
  pub second : b.linkage ≡ External
  pub name : a.name ≡ b.name

-- what is said at two places is said of one entity: it is said at one place, or of one name
abbrev pub AreOne : (s e z d : ℕ) → WholeEntity → WholeEntity → Type 0
AreOne s e z d a b = ((s ≡ z) × (e ≡ d)) ⊎ HaveOneName a b

-- an entity that is there, when a source says something of it: its definition tells the source and the type
pub data IsTold (there is : WholeEntity) : WholeEntity → Type 0 where
  declared : is.defined ≡ None → IsTold there is there
  defined : (place : ℕ × ℕ) → is.defined ≡ Some place → there.defined ≡ None →
      IsTold there is (record there { ty = is.ty; defined = is.defined })

-- an entity was put behind the others
pub record IsPushed (old new : Gathered) (is : WholeEntity) (number : ℕ) : Type 0 where
  pub last : number ≡ length old.list
  pub list : new.list ≡ old.list ++ is ∷ []
  pub names : new.names ≡ old.names

-- and under its name
pub record IsPushedNamed (old new : Gathered) (is : WholeEntity) (number : ℕ) : Type 0 where
  pub last : number ≡ length old.list
  pub list : new.list ≡ old.list ++ is ∷ []
  pub names : (other : List ℕ) →
      number_named new.names other
      ≡ (if pointwise nat_eq is.name other then Some number else number_named old.names other)

-- something was told of the entity with this number
pub record IsToldAt (old new : Gathered) (number : ℕ) (is : WholeEntity) : Type 0 where
  pub there : WholeEntity
  pub at : slice_get old.list number ≡ Some there
  pub kind : there.kind ≡ is.kind
  pub here : WholeEntity
  pub told : IsTold there is here
  pub list : new.list ≡ slice_set old.list number here
  pub names : new.names ≡ old.names

-- what a source says was put to the entities: to the one of that name where there is one
pub data IsListed (old new : List WholeEntity) (is : WholeEntity) (number : ℕ) : Type 0 where
  pushed : ((n : ℕ) (other : WholeEntity) → slice_get old n ≡ Some other → HaveOneName other is → ⊥) →
      number ≡ length old → new ≡ old ++ is ∷ [] → IsListed old new is number
  told : {there here : WholeEntity} → slice_get old number ≡ Some there → HaveOneName there is →
      there.kind ≡ is.kind → IsTold there is here → new ≡ slice_set old number here →
      IsListed old new is number

-- the first entities of a source were put one by one, and got these numbers
pub data ArePut (source : ℕ) (row : List ℕ) (old : List WholeEntity) : List Entity → List ℕ →
    List WholeEntity → Type 0 where
  none : ArePut source row old [] [] old
  more : {entities : List Entity} {numbers : List ℕ} {now new : List WholeEntity} {entity : Entity}
      {is : WholeEntity} {number : ℕ} → ArePut source row old entities numbers now →
      IsSaid row (source, length numbers) entity is → IsListed now new is number →
      ArePut source row old (entities ++ entity ∷ []) (numbers ++ number ∷ []) new

-- the number of an entity of a source in the program
abbrev pub IsNumberAt : List (List ℕ) → (s e n : ℕ) → Type 0
IsNumberAt rows s e n =
    (numbers : List ℕ) × (slice_get rows s ≡ Some numbers) × (slice_get numbers e ≡ Some n)

-- and what the source says of it
pub record IsSaidAt (units : Units) (types rows : List (List ℕ)) (s e n : ℕ) (is : WholeEntity) : Type 0 where
  pub number : IsNumberAt rows s e n
  pub entity : Entity
  pub of : IsEntity units s e entity
  pub row : List ℕ
  pub row_at : slice_get types s ≡ Some row
  pub said : IsSaid row (s, e) entity is

-- the program keeps what a source says: all of it, where that defines the entity
pub record IsKept (is here : WholeEntity) : Type 0 where
  pub name : here.name ≡ is.name
  pub linkage : here.linkage ≡ is.linkage
  pub kind : here.kind ≡ is.kind
  pub definition : (is.defined ≡ None) ⊎ ((here.defined ≡ is.defined) × (here.ty ≡ is.ty))

-- `Says s e n is`: the source `s` says this of its entity `e`, which has the number `n` in the program
module _ (Says : (s e n : ℕ) → WholeEntity → Type 0) where
  -- no place that stands before this one has the number
  abbrev pub IsFirst : (n s e : ℕ) → Type 0
  IsFirst n s e = (z d : ℕ) (is : WholeEntity) → Says z d n is → ComesBefore z d s e → ⊥

  -- what the program has of an entity, some source says: the one that defines it,
  -- or the first that declares it
  pub record IsFrom (n : ℕ) (here : WholeEntity) : Type 0 where
    pub source : ℕ
    pub number : ℕ
    pub is : WholeEntity
    pub says : Says source number n is
    pub type : here.ty ≡ is.ty
    pub defined : here.defined ≡ is.defined
    pub first : here.defined ≡ None → IsFirst n source number

  -- the program has these entities for what the sources say
  pub record AreGathered (list : List WholeEntity) : Type 0 where
    pub one_then : (s e z d n m : ℕ) (a b : WholeEntity) → Says s e n a → Says z d m b → n ≡ m →
        AreOne s e z d a b
    pub one_where : (s e z d n m : ℕ) (a b : WholeEntity) → Says s e n a → Says z d m b →
        AreOne s e z d a b → n ≡ m
    pub kept : (s e n : ℕ) (is : WholeEntity) → Says s e n is →
        (here : WholeEntity) × (slice_get list n ≡ Some here) × IsKept is here
    pub none_else : (n : ℕ) (here : WholeEntity) → slice_get list n ≡ Some here → IsFrom n here
    pub order : (s e z d n m : ℕ) (a b : WholeEntity) → Says s e n a → Says z d m b → IsFirst n s e →
        IsFirst m z d → ComesBefore s e z d → n < m

-- the entities of the first sources have these numbers
pub record AreEntityRows (units : Units) (types rows : List (List ℕ)) (list : List WholeEntity)
    (count : ℕ) : Type 0 where
  pub size : length rows ≡ count
  pub known : (s e : ℕ) (entity : Entity) → IsEntity units s e entity → s < count →
      (n : ℕ) × IsNumberAt rows s e n
  pub said : (s e n : ℕ) → IsNumberAt rows s e n → (is : WholeEntity) × IsSaidAt units types rows s e n is
  pub gathered : AreGathered (IsSaidAt units types rows) list
