-- What the declarators of a declaration put (C99 6.7), at file scope and in a block.
use Rattle.std.specs.Prelude.{ℕ, ◌≡◌, ◌++◌, ⊤, true, false, Option, Some, List, [], ◌∷◌, length, nat_eq}
use Rattle.std.specs.List.{Contains}
use Rattle.std.specs.Map.{lookup}
use Rattle.lk_tree.specs.declared.declaration.Declare.{Declare}
use Rattle.lk_tree.specs.declared.declaration.Init.{Init}
use Rattle.lk_tree.specs.declared.declaration.InitDeclarator.{InitDeclarator}
use Rattle.lk_tree.specs.declared.statement.Unit.{Unit}
use Rattle.lk_types.specs.declared.c_type.CType.{CType}
use Rattle.lk_typed.specs.DeclarationRules.{AtFile, InBlock, Scope, is_static_object}
use Rattle.lk_typed.specs.Declarations.{name_adds}
use Rattle.lk_typed.specs.Entities.{IsDeclaratorOf, NameDeclared, entity_kind, specifiers_of}
use Rattle.lk_typed.specs.Env.{AnObject, Env, Name, extend, look_up}
use Rattle.lk_typed.specs.Expressions.{declarator_found}
use Rattle.lk_typed.specs.InitialiserRules.{Object}
use Rattle.lk_typed.specs.Meaning.{IsReady}
use Rattle.lk_typed.specs.NodeParts.{initialiser_part, type_declared}
use Rattle.lk_typed.specs.Nodes.{ADeclaration, AnInitialiser, at}
use Rattle.lk_typed.specs.Told.{Named, SpecifierTold}
use Rattle.lk_typed.specs.Ty.{Ty}
use Rattle.lk_typed.specs.TypedUnits.{IsStaticObject}
use Rattle.lk_typed.specs.declared.entity.Entity.{Entity}
use Rattle.lk_typed.specs.declared.entity.EntityKind.{EntityKind}
use Rattle.lk_typed.specs.declared.entity.Linkage.{Linkage}
use Rattle.lk_typed.specs.declared.initialiser.StaticObject.{StaticObject}
use Rattle.lk_typed.specs.declared.unit.Local.{Local}
use Rattle.lk_check_decl.specs.Twins.{scope_of}
use Rattle.lk_check_decl.specs.declared.words.Scope.{Scope as CodeScope}
use Rattle.lk_found.specs.Named.{name_in}
use Rattle.lk_found.specs.Findings.{IsDeclaredAs}
use Rattle.lk_found.specs.declared.declarators.DeclaredName.{DeclaredName}
use Rattle.lk_found.specs.declared.records.DeclaredHere.{DeclaredHere}
use Rattle.lk_elaborator.specs.Gathering.{IsGathered}
use Rattle.lk_elaborator.specs.PuttingLocals.{AreNumbered}
use Rattle.lk_elaborator.specs.PuttingLocals as put
use Rattle.lk_elaborator.specs.Rising.{IsRising}
use Rattle.lk_elaborator.specs.declared.elaborator.Elaborator.{Elaborator}
use Rattle.lk_elaborator.specs.declared.entities.Entities.{Entities}
use Rattle.lk_elaborator.specs.declared.entities.NamedEntity.{NamedEntity}
use Rattle.lk_elaborate.specs.Making.{StandIn}
use Rattle.lk_elaborate.specs.Outside.{LeadsOutside}
use Rattle.lk_elaborate.specs.Putting.{AreRising, HasBodyIn, IsLocalHere, IsPutAs, PutsAll}

-- ---- what is put of these names, and of the objects that the nodes with these numbers declare

module _ (N : NameDeclared → Type 0) where
  pub record NamesPut (old new : Entities) (types : List CType) (body : Option ℕ)
      (names : List NamedEntity) : Type 0 where
    pub gathers : (ns : List NamedEntity) → IsGathered ns old → IsGathered (ns ++ names) new
    pub rise : (ns : List NamedEntity) → IsRising ns old → IsRising (ns ++ names) new
    pub all : (n : NameDeclared) (kind : EntityKind) → N n → entity_kind n.is.meaning ≡ Some kind →
        (named : NamedEntity) × Contains names named × IsPutAs types body n named
    pub none_else : (named : NamedEntity) → Contains names named →
        (n : NameDeclared) × N n × IsPutAs types body n named

  pub record LocalsPut (old new : Elaborator) (locals : List Local) : Type 0 where
    pub list : new.locals.list.items ≡ old.locals.list.items ++ locals
    pub numbered : AreNumbered old.locals → AreNumbered new.locals
    pub rise : put.Rise old.locals.list.items → put.Rise new.locals.list.items
    pub all : (n : NameDeclared) (t : Ty) → N n → n.is.meaning ≡ AnObject t false →
        (local : Local) × Contains locals local × IsLocalHere new n t local
    pub none_else : (local : Local) → Contains locals local →
        (n : NameDeclared) × (t : Ty) × N n × (n.is.meaning ≡ AnObject t false) × IsLocalHere new n t local

module _ (externs : List Name) (unit : Unit) where
  pub record ObjectsPut (G : ℕ → Type 0) (old new : Elaborator) (objects : List StaticObject) : Type 0 where
    pub list : new.objects.items ≡ old.objects.items ++ objects
    pub rise : AreRising old.objects.items → AreRising new.objects.items
    pub all : (ordinal : ℕ) → G ordinal →
        (object : StaticObject) × Contains objects object × (object.ordinal ≡ ordinal)
    pub each : (object : StaticObject) → Contains objects object →
        (types : List CType) (entities : List Entity) → LeadsOutside new types entities →
        IsStaticObject externs unit types entities object

  pub record PutsThose (N : NameDeclared → Type 0) (G : ℕ → Type 0) (old new : Elaborator)
      (body : Option ℕ) : Type 0 where
    pub names : List NamedEntity
    pub names_put : NamesPut N old.entities new.entities new.types.types body names
    pub locals : List Local
    pub locals_put : LocalsPut N old new locals
    pub objects : List StaticObject
    pub objects_put : ObjectsPut G old new objects
    pub bodies : new.bodies ≡ old.bodies

abbrev pub NoName : NameDeclared → Type 0
NoName n = ⊥

abbrev pub NoObject : ℕ → Type 0
NoObject ordinal = ⊥

-- ---- where it stands

-- in a block it is the body that is made; a name at file scope has none, whichever body is meant
abbrev pub IsBodyAt : Scope → Elaborator → Option ℕ → Type 0
IsBodyAt AtFile walk body = ⊤
IsBodyAt InBlock walk body = body ≡ Some (length walk.bodies.items)

-- a name of this linkage has this body there
abbrev pub HasBodyFor : CodeScope → Elaborator → Linkage → Option ℕ → Type 0
HasBodyFor scope walk l has = (body : Option ℕ) → IsBodyAt (scope_of scope) walk body → HasBodyIn body l has

-- ---- a name, as it was recorded

-- the code's name is this one
pub record IsNamedSo (named : DeclaredName) (n : NameDeclared) : Type 0 where
  pub name : (name_in named).name ≡ n.is.name
  pub spot : named.at.spot ≡ n.spot
  pub ordinal : named.at.ordinal ≡ n.is.ordinal

-- this name is put, whose declaration was recorded as this
abbrev pub PutsNamed : CodeScope → Elaborator → Elaborator → DeclaredName → DeclaredHere → Type 0
PutsNamed scope old new named h =
    (externs : List Name) (unit : Unit) (n : NameDeclared) (body : Option ℕ) → IsReady old.types →
    IsNamedSo named n → IsDeclaredAs old.types h n → IsBodyAt (scope_of scope) old body →
    PutsThose externs unit (λ m. m ≡ n) NoObject old new body

-- a local of this name and type
abbrev pub PutsAutomatic : Elaborator → Elaborator → DeclaredName → ℕ → Type 0
PutsAutomatic old new named t = put.PutsLocalOf old new (name_in named).name t named.at.spot named.at.ordinal

-- an entity of this kind
abbrev pub PutsEntity : CodeScope → Elaborator → Elaborator → DeclaredName → EntityKind →
    DeclaredHere → Type 0
PutsEntity scope old new named kind h =
    (externs : List Name) (unit : Unit) (n : NameDeclared) (body : Option ℕ) → IsReady old.types →
    IsNamedSo named n → IsDeclaredAs old.types h n → entity_kind n.is.meaning ≡ Some kind →
    IsBodyAt (scope_of scope) old body → PutsThose externs unit (λ m. m ≡ n) NoObject old new body

-- as its node declared it
abbrev pub PutsRecorded : CodeScope → Elaborator → Elaborator → DeclaredName → Type 0
PutsRecorded scope old new named =
    (h : DeclaredHere) × (lookup (nat_eq named.at.ordinal) old.records.declared ≡ Some h)
    × PutsNamed scope old new named h

-- ---- a declarator with its initialiser

module _ (scope : Scope) (told : SpecifierTold) (here : Env) (d : InitDeclarator) where
  -- it declares this name
  pub record DeclaredBy (n : NameDeclared) : Type 0 where
    pub named : Named
    pub has_name : (declarator_found d.declarator).name ≡ Some named
    pub found : look_up (extend here (name_adds scope told here d)) named.name ≡ Some n.is
    pub spot : n.spot ≡ named.spot
    pub type : type_declared scope told here d ≡ Some n.type

  -- it declares an object of static storage with an initialiser
  pub record GivenBy (ordinal : ℕ) : Type 0 where
    pub is_static : is_static_object scope told.storages ≡ true
    pub named : Named
    pub has_name : (declarator_found d.declarator).name ≡ Some named
    pub numbered : named.ordinal ≡ ordinal
    pub behind : Env
    pub object : Object
    pub init : Init
    pub is_given : initialiser_part scope told here d ≡ at behind (AnInitialiser (Some object) init) ∷ []

-- a declarator of a declaration of the source
pub record StandsThere (scope : Scope) (walk : Elaborator) (node : Declare) (env here : Env)
    (d : InitDeclarator) : Type 0 where
  pub stand : StandIn walk (at env (ADeclaration scope node) ∷ [])
  pub among : IsDeclaratorOf scope env node here d

abbrev pub PutsDeclarator : CodeScope → Elaborator → Elaborator → InitDeclarator → Type 0
PutsDeclarator scope old new d =
    (node : Declare) (env here : Env) (body : Option ℕ)
    (there : StandsThere (scope_of scope) old node env here d) → IsBodyAt (scope_of scope) old body →
    PutsThose there.stand.externs there.stand.unit
    (DeclaredBy (scope_of scope) (specifiers_of env node) here d)
    (GivenBy (scope_of scope) (specifiers_of env node) here d) old new body

-- the initialiser of an object of this name, which was put before
abbrev pub PutsInitialised : Elaborator → Elaborator → DeclaredName → Init → Type 0
PutsInitialised old new named init =
    (d : InitDeclarator) → (declarator_found d.declarator).name ≡ Some (name_in named) → d.init ≡ Some init →
    (scope : Scope) (node : Declare) (env here : Env) (body : Option ℕ)
    (there : StandsThere scope old node env here d) →
    PutsThose there.stand.externs there.stand.unit NoName
    (GivenBy scope (specifiers_of env node) here d) old new body

-- whose declaration was recorded as this
abbrev pub PutsInitialisedAs : Elaborator → Elaborator → DeclaredName → DeclaredHere → Init → Type 0
PutsInitialisedAs old new named h init = lookup (nat_eq named.at.ordinal) old.records.declared ≡ Some h →
    PutsInitialised old new named init

-- ---- a declaration

abbrev pub PutsDeclaration : CodeScope → Elaborator → Elaborator → Declare → Type 0
PutsDeclaration scope old new node =
    (env : Env) (body : Option ℕ) (stand : StandIn old (at env (ADeclaration (scope_of scope) node) ∷ [])) →
    IsBodyAt (scope_of scope) old body →
    PutsAll stand.externs stand.unit (at env (ADeclaration (scope_of scope) node) ∷ []) old new body
