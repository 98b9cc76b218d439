-- The names that a source declares, and the entities that they are: functions and objects of static
-- storage (C99 6.2.2, 6.2.4, 3).
use Rattle.std.specs.Prelude.{ℕ, ◌≡◌, ◌↔◌, ◌⊎◌, ◌<◌, true, false, Option, Some, None, List, [], ◌∷◌, slice_get}
use Rattle.lk_base.specs.declared.spot.Spot.{Spot}
use Rattle.lk_tree.specs.declared.declaration.Declare.{Declare}
use Rattle.lk_tree.specs.declared.declaration.InitDeclarator.{InitDeclarator}
use Rattle.lk_tree.specs.declared.expression.Expr.{Expr}
use Rattle.lk_tree.specs.declared.statement.Function.{Function as Definition}
use Rattle.lk_tree.specs.declared.statement.Unit.{Unit}
use Rattle.lk_types.specs.declared.c_type.CType.{CType}
use Rattle.lk_typed.specs.DeclarationRules.{InDefinition, Scope, type_in}
use Rattle.lk_typed.specs.Declarations.{composite_if_equal, declarator_adds, is_alone, name_adds}
use Rattle.lk_typed.specs.Env.{Env, Name, Declared, Meaning, AnObject, AFunction, ATypedef, AnEnumerator, AnInitialiserWord, AFaultyName, extend, look_up}
use Rattle.lk_typed.specs.Expressions.{AWord, declarator_found, specifiers_found, written}
use Rattle.lk_typed.specs.Layers.{type_made}
use Rattle.lk_typed.specs.NodeParts.{behind_declarator, parts, type_declared}
use Rattle.lk_typed.specs.NodeRules.{breaches, hiding, mark_of}
use Rattle.lk_typed.specs.Nodes.{Node, ADeclaration, ADefinition, AnExpression}
use Rattle.lk_typed.specs.Redeclared.{is_linked_alike}
use Rattle.lk_typed.specs.Stands as stands
use Rattle.lk_typed.specs.Tables.{IsDeclaredBy}
use Rattle.lk_typed.specs.Told.{Named, SpecifierTold}
use Rattle.lk_typed.specs.Ty.{Ty, Means}
use Rattle.lk_typed.specs.Units.{IsNode, at_end}
use Rattle.lk_typed.specs.declared.entity.Declaration.{Declaration}
use Rattle.lk_typed.specs.declared.entity.Entity.{Entity}
use Rattle.lk_typed.specs.declared.entity.EntityKind.{EntityKind}
use Rattle.lk_typed.specs.declared.entity.EntityKind.TheVariants as kind
use Rattle.lk_typed.specs.declared.entity.Use.{Use}
use Rattle.lk_typed.specs.declared.unit.Body.{Body}

-- ---- declared names

-- a name that a declaration or a definition declares: what it stands for behind its declarator, its place,
-- and the type that is declared, with the size that its initialiser gives
pub record NameDeclared : Type 0 where
  pub is : Declared
  pub spot : Spot
  pub type : Ty

abbrev pub specifiers_of : Env → Declare → SpecifierTold
specifiers_of env node = specifiers_found node.specifiers env (is_alone node.declarators)

-- a declarator stands among others of a declaration, behind those before it
pub data StandsAmong (scope : Scope) (told : SpecifierTold) : Env → List InitDeclarator → Env →
    InitDeclarator → Type 0 where
  first : {env : Env} {d : InitDeclarator} {ds : List InitDeclarator} →
      StandsAmong scope told env (d ∷ ds) env d
  later : {env env' : Env} {d e : InitDeclarator} {ds : List InitDeclarator} →
      StandsAmong scope told (extend env (declarator_adds scope told env d)) ds env' e →
      StandsAmong scope told env (d ∷ ds) env' e

abbrev pub IsDeclaratorOf : Scope → Env → Declare → Env → InitDeclarator → Type 0
IsDeclaratorOf scope env node env' d =
    StandsAmong scope (specifiers_of env node) (extend env (specifiers_of env node).additions)
    node.declarators env' d

-- the environment behind the declarator of a definition, with its name, and its type
abbrev pub behind_name : Env → Definition → Env
behind_name env node = let told = specifiers_found node.specifiers env false in
    behind_declarator told (extend env told.additions) node

abbrev pub defined_type : Env → Definition → Option Ty
defined_type env node =
    let told = specifiers_found node.specifiers env false in
    type_made (extend env told.additions) false (type_in InDefinition told)
    (declarator_found node.declarator)

-- a node declares a name
pub data DeclaresName (env : Env) : Node → NameDeclared → Type 0 where
  in_declaration : {scope : Scope} {node : Declare} {env' : Env} {d : InitDeclarator} {named : Named}
      {is : Declared} {t : Ty} → IsDeclaratorOf scope env node env' d →
      (declarator_found d.declarator).name ≡ Some named →
      look_up (extend env' (name_adds scope (specifiers_of env node) env' d)) named.name ≡ Some is →
      type_declared scope (specifiers_of env node) env' d ≡ Some t →
      DeclaresName env (ADeclaration scope node) (record { is = is; spot = named.spot; type = t })
  by_definition : {node : Definition} {named : Named} {is : Declared} {t : Ty} →
      (declarator_found node.declarator).name ≡ Some named →
      look_up (behind_name env node) named.name ≡ Some is → defined_type env node ≡ Some t →
      DeclaresName env (ADefinition node) (record { is = is; spot = named.spot; type = t })

-- ---- what is an entity: a function, and an object of static storage (C99 6.2.4, 3)

abbrev pub entity_kind : Meaning → Option EntityKind
entity_kind (AnObject t true) = Some kind.Object
entity_kind (AnObject t false) = None
entity_kind (AFunction t) = Some kind.Function
entity_kind (ATypedef t) = None
entity_kind (AnEnumerator z) = None
entity_kind (AnInitialiserWord t) = None
entity_kind AFaultyName = None

-- two declarations are of one entity: they are one, or have one name, of external or of
-- internal linkage (C99 6.2.2, 2)
abbrev pub AreOfOne : NameDeclared → NameDeclared → Type 0
AreOfOne a b =
    (a.is.ordinal ≡ b.is.ordinal)
    ⊎ ((is_linked_alike a.is.linkage b.is.linkage ≡ true) × (a.is.name ≡ b.is.name))

-- the composite of the types that declarations give, behind that of those before them (C99 6.2.7, 3 and 4)
pub data HaveComposite (types : List CType) : Option Ty → List Declaration → Ty → Type 0 where
  no_more : {t : Ty} → HaveComposite types (Some t) [] t
  next : {before : Option Ty} {is : Declaration} {others : List Declaration} {t whole : Ty} →
      Means types is.ty t → HaveComposite types (Some (composite_if_equal t before)) others whole →
      HaveComposite types before (is ∷ others) whole

pub record IsDeclarationOf (types : List CType) (n : NameDeclared) (is : Declaration) : Type 0 where
  pub spot : is.spot ≡ n.spot
  pub ordinal : is.ordinal ≡ n.is.ordinal
  pub type : Means types is.ty n.type
  pub defines : is.defines ≡ n.is.defines

-- `externs` are the names that --externs lists
module _ (externs : List Name) (unit : Unit) where
  abbrev pub StandsIn : Env → Node → Env → Node → Type 0
  StandsIn =
      stands.Stands (parts (at_end externs unit)) (breaches (at_end externs unit))
      (hiding (at_end externs unit)) mark_of

  -- a name that stands for a function or an object of static storage
  pub record IsEntityName (env : Env) (node : Node) (n : NameDeclared) : Type 0 where
    pub stands : IsNode externs unit env node
    pub declares : DeclaresName env node n
    pub kind : EntityKind
    pub is_entity : entity_kind n.is.meaning ≡ Some kind

  -- it stands in the body with this number
  pub record StandsInBody (bodies : List Body) (env : Env) (node : Node) (b : ℕ) : Type 0 where
    pub around : Env
    pub definition : Definition
    pub of : IsNode externs unit around (ADefinition definition)
    pub inside : StandsIn around (ADefinition definition) env node
    pub body : Body
    pub at : slice_get bodies b ≡ Some body
    pub is : body.ordinal ≡ definition.ordinal

  -- a name without linkage is a `static` object of a block: it has the body in which it stands
  pub data HasBody (bodies : List Body) (env : Env) (node : Node) (n : NameDeclared) : Option ℕ → Type 0 where
    none : is_linked_alike n.is.linkage n.is.linkage ≡ true → HasBody bodies env node n None
    in_block : {b : ℕ} → is_linked_alike n.is.linkage n.is.linkage ≡ false → StandsInBody bodies env node b →
        HasBody bodies env node n (Some b)

  -- a name stands as an expression, for the entity (C99 6.5.1); in sizeof and where control never comes too
  pub record IsUseOf (entity : Entity) (use_ : Use) : Type 0 where
    pub env : Env
    pub e : Expr
    pub stands : IsNode externs unit env (AnExpression e)
    pub name : Name
    pub is_name : written e ≡ AWord name
    pub declared : Declared
    pub found : look_up env name ≡ Some declared
    pub of : IsDeclaredBy entity declared.ordinal
    pub spot : use_.spot ≡ e.spot
    pub ordinal : use_.ordinal ≡ e.ordinal

  pub data IsFirstUse (entity : Entity) : Option Use → Type 0 where
    unused : ((other : Use) → IsUseOf entity other → ⊥) → IsFirstUse entity None
    used : {use_ : Use} → IsUseOf entity use_ →
        ((other : Use) → IsUseOf entity other → other.ordinal < use_.ordinal → ⊥) →
        IsFirstUse entity (Some use_)

  -- what an entity keeps, by its first declaration
  pub record IsEntityOf (types : List CType) (bodies : List Body) (env : Env) (node : Node) (n : NameDeclared)
      (entity : Entity) : Type 0 where
    pub name : entity.name ≡ n.is.name
    pub linkage : entity.linkage ≡ n.is.linkage
    pub kind : entity_kind n.is.meaning ≡ Some entity.kind
    pub whole : Ty
    pub type : HaveComposite types None entity.declarations whole
    pub is_type : Means types entity.ty whole
    pub use_ : IsFirstUse entity entity.first_use
    pub body : HasBody bodies env node n entity.body

  -- ---- the entities of a unit: each name that is one is a declaration of one entity; both stand in the order of the text

  module _ (types : List CType) (bodies : List Body) (entities : List Entity) where
    -- the declaration k of the entity e
    pub record IsDeclaration (e k : ℕ) (is : Declaration) : Type 0 where
      pub entity : Entity
      pub at : slice_get entities e ≡ Some entity
      pub has : slice_get entity.declarations k ≡ Some is

    -- it is that of this name
    pub record Declares (e k : ℕ) (n : NameDeclared) : Type 0 where
      pub is : Declaration
      pub at : IsDeclaration e k is
      pub of : IsDeclarationOf types n is

    pub record AreEntities : Type 0 where
      pub all : (env : Env) (node : Node) (n : NameDeclared) → IsEntityName env node n →
          (e k : ℕ) × Declares e k n
      pub none_else : (e k : ℕ) (is : Declaration) → IsDeclaration e k is →
          (env : Env) × (node : Node) × (n : NameDeclared) × IsEntityName env node n
          × IsDeclarationOf types n is
      pub one : (e k f j : ℕ) (env around : Env) (node other : Node) (n m : NameDeclared) →
          IsEntityName env node n → IsEntityName around other m → Declares e k n → Declares f j m →
          (e ≡ f) ↔ AreOfOne n m
      pub first : (e : ℕ) (entity : Entity) → slice_get entities e ≡ Some entity →
          (env : Env) × (node : Node) × (n : NameDeclared) × IsEntityName env node n × Declares e 0 n
          × IsEntityOf types bodies env node n entity
      pub entities_rise : (e f : ℕ) (a b : Declaration) → e < f → IsDeclaration e 0 a → IsDeclaration f 0 b →
          a.ordinal < b.ordinal
      pub declarations_rise : (e k j : ℕ) (a b : Declaration) → k < j → IsDeclaration e k a →
          IsDeclaration e j b → a.ordinal < b.ordinal
