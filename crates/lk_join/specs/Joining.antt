-- The program that sources make together (C99 6.2.2, 6.2.7, 6.9).
use Rattle.std.specs.Prelude.{◌≡◌, ◌↔◌, ◌<◌, ◌⊎◌, ℕ, Bool, false, List, Some, None, length, map, slice_get, codes}
use Rattle.std.specs.List.{AllZip}
use Rattle.lk_base.specs.declared.kind.Kind.{Kind}
use Rattle.lk_link.specs.Sources.{Units, IsStruct, IsEntity, IsDefinition, ComesBefore}
use Rattle.lk_link.specs.Structs.{Becomes, members_in, types_in, struct_in}
use Rattle.lk_link.specs.declared.place.StructOf.{StructOf}
use Rattle.lk_typed.specs.Meaning.{IsReady}
use Rattle.lk_typed.specs.declared.entity.Entity.{Entity}
use Rattle.lk_typed.specs.declared.entity.EntityKind.TheVariants.{Function}
use Rattle.lk_typed.specs.declared.entity.Linkage.TheVariants as linkage
use Rattle.lk_typed.specs.declared.whole.Linked.{Linked}
use Rattle.lk_typed.specs.declared.whole.Whole.{Whole}
use Rattle.lk_typed.specs.declared.whole.WholeEntity.{WholeEntity}
use Rattle.lk_types.specs.Sizes.{form_size, is_over}
use Rattle.lk_types.specs.Table.{members_of}
use Rattle.lk_types.specs.declared.c_type.CType.{CType}
use Rattle.lk_types.specs.declared.c_type.CType.TheVariants.{Void, Int, ThreadId, Mutex, Cond, Pointer, Array, Struct, Function as FunctionType, Opaque}
use Rattle.lk_types.specs.declared.member.StructMember.{StructMember}
use Rattle.lk_join.specs.Classes.{AreOneStruct}

module _ (whole : Whole) where
  abbrev pub units_of : Units
  units_of = map (λ linked. linked.unit) whole.sources

  -- the program's number of a type of a source, and of an entity of one
  abbrev pub IsTypeHere : (s t here : ℕ) → Type 0
  IsTypeHere s t here =
      (linked : Linked) × (slice_get whole.sources s ≡ Some linked) × (slice_get linked.types t ≡ Some here)

  abbrev pub IsEntityHere : (s e here : ℕ) → Type 0
  IsEntityHere s e here =
      (linked : Linked) × (slice_get whole.sources s ≡ Some linked)
      × (slice_get linked.entities e ≡ Some here)

  -- a member of a struct in the program: the same name, with the program's type
  abbrev pub IsMemberHere : ℕ → StructMember → StructMember → Type 0
  IsMemberHere s a b = (a.name ≡ b.name) × IsTypeHere s a.ty b.ty

  -- structs are one in the program exactly where what they become is one struct; `struct_of` is the
  -- program's number of a struct
  pub record AreStructs (struct_of : StructOf → ℕ) : Type 0 where
    pub known : (s : StructOf) → IsStruct units_of s → struct_of s < length whole.types.members
    pub one : (s z r q : StructOf) → IsStruct units_of s → IsStruct units_of z → Becomes units_of s r →
        Becomes units_of z q → (struct_of s ≡ struct_of z) ↔ AreOneStruct units_of r q
    pub members : (s r : StructOf) → IsStruct units_of s → Becomes units_of s r →
        AllZip (IsMemberHere r.source) (members_in units_of r) (members_of whole.types (struct_of s))

  -- a type of the source s has, in the program, the form that it has there, made of the program's types
  pub data HasFormHere (struct_of : StructOf → ℕ) (s : ℕ) : CType → CType → Type 0 where
    void : HasFormHere struct_of s Void Void
    integer : {k : Kind} → HasFormHere struct_of s (Int k) (Int k)
    thread : HasFormHere struct_of s ThreadId ThreadId
    mutex : HasFormHere struct_of s Mutex Mutex
    condition : HasFormHere struct_of s Cond Cond
    opaque : {n : ℕ} → HasFormHere struct_of s (Opaque n) (Opaque n)
    pointer : {a b : ℕ} → IsTypeHere s a b → HasFormHere struct_of s (Pointer a) (Pointer b)
    array : {a b n : ℕ} → IsTypeHere s a b → HasFormHere struct_of s (Array a n) (Array b n)
    struct : {a : ℕ} → HasFormHere struct_of s (Struct a) (Struct (struct_of (struct_in s a)))
    function : {a b : ℕ} {ps qs : List ℕ} {dots : Bool} → IsTypeHere s a b → AllZip (IsTypeHere s) ps qs →
        HasFormHere struct_of s (FunctionType a ps dots) (FunctionType b qs dots)

  pub record AreTypes : Type 0 where
    -- they are a table, which begins with the predeclared types, and in which each type stands once
    pub ready : IsReady whole.types
    pub struct_of : StructOf → ℕ
    pub structs : AreStructs struct_of
    pub has : (s t : ℕ) (form : CType) → slice_get (types_in units_of s) t ≡ Some form →
        (here : ℕ) × (form_here : CType) ×
        IsTypeHere s t here × (slice_get whole.types.types here ≡ Some form_here)
        × HasFormHere struct_of s form form_here
    -- for each type of a source there is the pointer to it, where that is within the bounds of a table
    pub pointers : (s t here : ℕ) → IsTypeHere s t here →
        is_over (form_size whole.types (Pointer here)) ≡ false →
        (pointer : ℕ) × (slice_get whole.types.types pointer ≡ Some (Pointer here))

  -- two entities are one in the program: they are the same, or have one name of external linkage
  pub data AreOneEntity (s e z d : ℕ) : Type 0 where
    same : s ≡ z → e ≡ d → AreOneEntity s e z d
    external : {a b : Entity} → IsEntity units_of s e a → IsEntity units_of z d b →
        a.linkage ≡ linkage.External → b.linkage ≡ linkage.External → a.name ≡ b.name → AreOneEntity s e z d

  -- what the program keeps of an entity of a source: where that defines it, its type there
  pub record IsWholeEntity (s e : ℕ) (entity : Entity) (here : WholeEntity) : Type 0 where
    pub name : here.name ≡ entity.name
    pub linkage : here.linkage ≡ entity.linkage
    pub kind : here.kind ≡ entity.kind
    pub defined : IsDefinition entity → here.defined ≡ Some (s, e)
    pub type : IsDefinition entity → IsTypeHere s entity.ty here.ty

  -- no entity of a source that stands before this one is it
  abbrev pub IsFirst : (here s e : ℕ) → Type 0
  IsFirst here s e = (z d : ℕ) → IsEntityHere z d here → ComesBefore z d s e → ⊥

  -- what it keeps comes from some source: from the one that defines the entity, or from the first that
  -- declares it, where none does
  pub record IsOfSource (here : ℕ) (is : WholeEntity) : Type 0 where
    pub source : ℕ
    pub number : ℕ
    pub entity : Entity
    pub of : IsEntity units_of source number entity
    pub at : IsEntityHere source number here
    pub type : IsTypeHere source entity.ty is.ty
    pub defined : ((is.defined ≡ None) × IsFirst here source number)
        ⊎ ((is.defined ≡ Some (source, number)) × IsDefinition entity)

  -- the first entity of a source that is this one
  pub record IsFirstPlace (here s e : ℕ) : Type 0 where
    pub at : IsEntityHere s e here
    pub first : IsFirst here s e

  pub record AreEntities : Type 0 where
    pub one : (s e z d here there : ℕ) → IsEntityHere s e here → IsEntityHere z d there →
        (here ≡ there) ↔ AreOneEntity s e z d
    pub kept : (s e : ℕ) (entity : Entity) → IsEntity units_of s e entity →
        (here : ℕ) × (is : WholeEntity) × IsEntityHere s e here × (slice_get whole.entities here ≡ Some is)
        × IsWholeEntity s e entity is
    pub none_else : (here : ℕ) (is : WholeEntity) → slice_get whole.entities here ≡ Some is →
        IsOfSource here is
    -- they stand in the order of their first declarations
    pub order : (here there s e z d : ℕ) → IsFirstPlace here s e → IsFirstPlace there z d →
        (here < there) ↔ ComesBefore s e z d

  -- the program is made of these sources
  pub record IsJoined (units : Units) : Type 0 where
    pub sources : units_of ≡ units
    pub types : AreTypes
    pub entities : AreEntities
    pub main_ : WholeEntity
    pub main_is : slice_get whole.entities whole.main ≡ Some main_
    pub named : main_.name ≡ codes "main"
    pub external : main_.linkage ≡ linkage.External
    pub is_function : main_.kind ≡ Function
