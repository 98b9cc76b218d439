-- What is put while the typed tree of a source is made: the names of entities and the locals that its nodes
-- declare, and its objects of static storage with an initialiser (C99 6.2.2, 6.2.4, 6.7.8).
use Rattle.std.specs.Prelude.{ℕ, ◌≡◌, ◌++◌, ◌<◌, true, false, Option, Some, None, List, [], ◌∷◌, length, slice_get}
use Rattle.std.specs.List.{Contains}
use Rattle.lk_tree.specs.declared.declaration.Init.{Init}
use Rattle.lk_tree.specs.declared.statement.Unit.{Unit}
use Rattle.lk_types.specs.declared.c_type.CType.{CType}
use Rattle.lk_typed.specs.Entities.{DeclaresName, IsDeclarationOf, NameDeclared, StandsIn, entity_kind}
use Rattle.lk_typed.specs.Env.{AnObject, Env, Name}
use Rattle.lk_typed.specs.InitialiserRules.{Object}
use Rattle.lk_typed.specs.Initialised.{AreGiven, PartGiven}
use Rattle.lk_typed.specs.Meaning.{meaning}
use Rattle.lk_typed.specs.Nodes.{ADeclaration, AnInitialiser, Node, Placed, at}
use Rattle.lk_typed.specs.Redeclared.{is_linked_alike}
use Rattle.lk_typed.specs.Stands.{IsIn}
use Rattle.lk_typed.specs.StaticInits.{AreStaticParts}
use Rattle.lk_typed.specs.Tables.{IsEntityAt}
use Rattle.lk_typed.specs.Ty.{Means, Ty}
use Rattle.lk_typed.specs.TypedUnits.{IsGivenObject, IsStaticObject}
use Rattle.lk_typed.specs.declared.entity.Entity.{Entity}
use Rattle.lk_typed.specs.declared.entity.EntityKind.{EntityKind}
use Rattle.lk_typed.specs.declared.entity.Linkage.{Linkage}
use Rattle.lk_typed.specs.declared.initialiser.StaticObject.{StaticObject}
use Rattle.lk_typed.specs.declared.unit.Local.{Local}
use Rattle.lk_found.specs.declared.found.At.{At}
use Rattle.lk_elaborator.specs.Gathering.{IsGathered, declaration_of}
use Rattle.lk_elaborator.specs.PuttingLocals.{AreNumbered, IsLocalSo}
use Rattle.lk_elaborator.specs.PuttingLocals as put
use Rattle.lk_elaborator.specs.Rising.{IsRising}
use Rattle.lk_elaborator.specs.declared.elaborator.Elaborator.{Elaborator}
use Rattle.lk_elaborator.specs.declared.entities.NamedEntity.{NamedEntity}
use Rattle.lk_elaborate.specs.Making.{StandIn}
use Rattle.lk_elaborate.specs.Outside.{LeadsOutside, tables_of}

-- the body of a name: a `static` object of a block has the one in which it stands, a
-- name that is linked has none
pub data HasBodyIn (body : Option ℕ) (l : Linkage) : Option ℕ → Type 0 where
  linked : is_linked_alike l l ≡ true → HasBodyIn body l None
  in_block : {b : ℕ} → is_linked_alike l l ≡ false → body ≡ Some b → HasBodyIn body l (Some b)

-- objects stand in the order of the nodes that declare them
abbrev pub AreRising : List StaticObject → Type 0
AreRising objects = (o p : ℕ) (a b : StaticObject) → o < p → slice_get objects o ≡ Some a →
    slice_get objects p ≡ Some b → a.ordinal < b.ordinal

-- a name of an entity is declared as this, in the body with this number or at file scope
pub record IsPutAs (types : List CType) (around : Option ℕ) (n : NameDeclared)
    (named : NamedEntity) : Type 0 where
  pub name : named.name ≡ n.is.name
  pub linkage : named.linkage ≡ n.is.linkage
  pub kind : entity_kind n.is.meaning ≡ Some named.kind
  pub declaration : IsDeclarationOf types n (declaration_of named)
  pub body : HasBodyIn around n.is.linkage named.body

-- a name of an object of automatic storage has this local
pub record IsLocalHere (walk : Elaborator) (n : NameDeclared) (t : Ty) (local : Local) : Type 0 where
  pub name : local.name ≡ n.is.name
  pub spot : local.spot ≡ n.spot
  pub ordinal : local.ordinal ≡ n.is.ordinal
  pub type : Means walk.types.types local.ty t
  pub so : IsLocalSo walk local

module _ (externs : List Name) (unit : Unit) (placed : List Placed) where
  -- a node that stands in one of these
  pub record StandsInside (env : Env) (node : Node) : Type 0 where
    pub outer : Placed
    pub among : IsIn outer placed
    pub stands : StandsIn externs unit outer.env outer.node env node

  -- it declares a name
  pub record IsNameInside (env : Env) (node : Node) (n : NameDeclared) : Type 0 where
    pub stands : StandsInside env node
    pub declares : DeclaresName env node n

  -- ---- names of entities

  pub record PutsNames (old new : Elaborator) (body : Option ℕ) (names : List NamedEntity) : Type 0 where
    pub gathers : (ns : List NamedEntity) → IsGathered ns old.entities → IsGathered (ns ++ names) new.entities
    pub rise : (ns : List NamedEntity) → IsRising ns old.entities → IsRising (ns ++ names) new.entities
    pub all : (env : Env) (node : Node) (n : NameDeclared) (kind : EntityKind) → IsNameInside env node n →
        entity_kind n.is.meaning ≡ Some kind →
        (named : NamedEntity) × Contains names named × IsPutAs new.types.types body n named
    pub none_else : (named : NamedEntity) → Contains names named →
        (env : Env) × (node : Node) × (n : NameDeclared) × IsNameInside env node n
        × IsPutAs new.types.types body n named

  -- ---- locals

  pub record PutsLocals (old new : Elaborator) (locals : List Local) : Type 0 where
    pub list : new.locals.list.items ≡ old.locals.list.items ++ locals
    pub numbered : AreNumbered old.locals → AreNumbered new.locals
    pub rise : put.Rise old.locals.list.items → put.Rise new.locals.list.items
    pub all : (env : Env) (node : Node) (n : NameDeclared) (t : Ty) → IsNameInside env node n →
        n.is.meaning ≡ AnObject t false → (local : Local) × Contains locals local × IsLocalHere new n t local
    pub none_else : (local : Local) → Contains locals local →
        (env : Env) × (node : Node) × (n : NameDeclared) × (t : Ty) × IsNameInside env node n
        × (n.is.meaning ≡ AnObject t false) × IsLocalHere new n t local

  -- ---- objects of static storage with an initialiser

  pub record IsGivenInside (types : List CType) (entities : List Entity) (ordinal : ℕ) : Type 0 where
    pub given : IsGivenObject externs unit types entities ordinal
    pub stands : StandsInside given.env (ADeclaration given.scope given.node)

  pub record PutsObjects (old new : Elaborator) (objects : List StaticObject) : Type 0 where
    pub list : new.objects.items ≡ old.objects.items ++ objects
    pub rise : AreRising old.objects.items → AreRising new.objects.items
    pub all : (types : List CType) (entities : List Entity) (ordinal : ℕ) →
        IsGivenInside types entities ordinal →
        (object : StaticObject) × Contains objects object × (object.ordinal ≡ ordinal)
    pub each : (object : StaticObject) → Contains objects object →
        (types : List CType) (entities : List Entity) → LeadsOutside new types entities →
        IsStaticObject externs unit types entities object

  -- ---- all of them

  pub record PutsAll (old new : Elaborator) (body : Option ℕ) : Type 0 where
    pub names : List NamedEntity
    pub puts_names : PutsNames old new body names
    pub locals : List Local
    pub puts_locals : PutsLocals old new locals
    pub objects : List StaticObject
    pub puts_objects : PutsObjects old new objects
    pub bodies : new.bodies ≡ old.bodies

-- where these nodes stand in the source, in the body that is made
abbrev pub PutsIn : Elaborator → Elaborator → List Placed → Type 0
PutsIn old new placed =
    (stand : StandIn old placed) →
    PutsAll stand.externs stand.unit placed old new (Some (length old.bodies.items))

-- at file scope
abbrev pub PutsOutside : Elaborator → Elaborator → List Placed → Type 0
PutsOutside old new placed =
    (stand : StandIn old placed) → PutsAll stand.externs stand.unit placed old new None

-- ---- one object of static storage, of the type with the number t

-- its initialiser stands in the source
pub record IsObjectOf (old new : Elaborator) (where_ : At) (t : ℕ) (init : Init)
    (object : StaticObject) : Type 0 where
  pub spot : object.spot ≡ where_.spot
  pub ordinal : object.ordinal ≡ where_.ordinal
  pub entity : (types : List CType) (entities : List Entity) → LeadsOutside new types entities →
      IsEntityAt (tables_of types entities []) where_.ordinal object.entity
  pub parts : (env : Env) (given : Object) → given.type ≡ meaning old.types t →
      StandIn old (at env (AnInitialiser (Some given) init) ∷ []) →
      (types : List CType) (entities : List Entity) → LeadsOutside new types entities →
      (parts : List PartGiven) × AreGiven env given.type [] init parts
      × AreStaticParts (tables_of types entities []) parts object.parts

pub record PutsObject (old new : Elaborator) (where_ : At) (t : ℕ) (init : Init) : Type 0 where
  pub object : StaticObject
  pub is : IsObjectOf old new where_ t init object
  pub list : new.objects.items ≡ old.objects.items ++ object ∷ []
  pub rise : AreRising old.objects.items → AreRising new.objects.items
  pub same : new ≡ record old { types = new.types; objects = new.objects }
