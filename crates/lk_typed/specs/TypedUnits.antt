-- The typed tree of a source (C99 6.9): what a source without a fault is checked to. It is determined but for
-- the numbers of types, which need only mean the types (`Means`): a table may have types that no node has, in
-- any order behind the predeclared ones.
use Rattle.std.specs.Prelude.{ℕ, ◌≡◌, ◌<◌, true, false, Some, List, [], ◌∷◌, slice_get}
use Rattle.lk_tree.specs.declared.declaration.Declare.{Declare}
use Rattle.lk_tree.specs.declared.declaration.Init.{Init}
use Rattle.lk_tree.specs.declared.declaration.InitDeclarator.{InitDeclarator}
use Rattle.lk_tree.specs.declared.statement.Decl.TheVariants as decl
use Rattle.lk_tree.specs.declared.statement.Empty.{Empty}
use Rattle.lk_tree.specs.declared.statement.Function.{Function as Definition}
use Rattle.lk_tree.specs.declared.statement.StmtForm.{out-StmtForm}
use Rattle.lk_tree.specs.declared.statement.Unit.{Unit}
use Rattle.lk_types.specs.Building.{IsTable}
use Rattle.lk_types.specs.Predeclared.{HasPredeclared}
use Rattle.lk_types.specs.Table.{Table}
use Rattle.lk_types.specs.declared.c_type.CType.{CType}
use Rattle.lk_typed.specs.DeclarationRules.{Scope, is_static_object}
use Rattle.lk_typed.specs.Entities.{AreEntities, IsDeclaratorOf, specifiers_of}
use Rattle.lk_typed.specs.Env.{Env, Name, extend}
use Rattle.lk_typed.specs.Expressions.{declarator_found, specifiers_found}
use Rattle.lk_typed.specs.Initialised.{PartGiven, AreGiven}
use Rattle.lk_typed.specs.InitialiserRules.{Object}
use Rattle.lk_typed.specs.Labels.{labels}
use Rattle.lk_typed.specs.Locals.{AreLocals}
use Rattle.lk_typed.specs.NodeParts.{body_items, in_body, initialiser_part}
use Rattle.lk_typed.specs.Nodes.{Placed, AnExternal, ADeclaration, AnInitialiser, at}
use Rattle.lk_typed.specs.Parts.{items_in_turn}
use Rattle.lk_typed.specs.StatementRules.{in_function}
use Rattle.lk_typed.specs.StaticInits.{AreStaticParts}
use Rattle.lk_typed.specs.Structs.{AreStructs, HaveTags}
use Rattle.lk_typed.specs.Tables.{Tables, IsEntityAt}
use Rattle.lk_typed.specs.Told.{Named}
use Rattle.lk_typed.specs.TypedStatements.{AreItems, MakesStmt}
use Rattle.lk_typed.specs.Units.{IsNode, at_end, externals}
use Rattle.lk_typed.specs.declared.entity.Entity.{Entity}
use Rattle.lk_typed.specs.declared.initialiser.StaticObject.{StaticObject}
use Rattle.lk_typed.specs.declared.statement.TypedItem.{TypedItem}
use Rattle.lk_typed.specs.declared.statement.TypedItem.TheOpen.{TypedStmtForm-F}
use Rattle.lk_typed.specs.declared.unit.Body.{Body}
use Rattle.lk_typed.specs.declared.unit.Local.{Local}
use Rattle.lk_typed.specs.declared.unit.TypedUnit.{TypedUnit}

-- `externs` are the names that --externs lists
module _ (externs : List Name) (unit : Unit) where
  -- ---- bodies (C99 6.9.1)

  module _ (types : List CType) (entities : List Entity) where
    abbrev tables_in : List Local → Tables
    tables_in locals = record { types = types; entities = entities; locals = locals }

    -- the environment behind the specifiers of a definition, and that of its body
    abbrev inside : Env → Definition → Env
    inside env node = let told = specifiers_found node.specifiers env false in
        in_body told (extend env told.additions) node

    pub record IsBody (env : Env) (definition : Definition) (body : Body) : Type 0 where
      pub spot : body.spot ≡ definition.spot
      pub ordinal : body.ordinal ≡ definition.ordinal
      pub named : Named
      pub has_name : (declarator_found definition.declarator).name ≡ Some named
      pub entity : IsEntityAt (tables_in []) named.ordinal body.entity
      pub locals : AreLocals externs unit types env definition body.parameters body.locals
      pub items : List TypedItem
      pub are_items : AreItems (tables_in body.locals)
          (items_in_turn (in_function (labels definition.body)) (inside env definition)
          (body_items (out-StmtForm definition.body.form))) items
      pub block : MakesStmt definition.body (TypedStmtForm-F.Block items) body.block

    -- the definitions among external declarations, in their order
    pub data AreBodies : List Placed → List Body → Type 0 where
      no_more : AreBodies [] []
      definition : {env : Env} {node : Definition} {others : List Placed} {body : Body} {bodies : List Body} →
          IsBody env node body → AreBodies others bodies →
          AreBodies (at env (AnExternal (decl.Function node)) ∷ others) (body ∷ bodies)
      declaration : {env : Env} {node : Declare} {others : List Placed} {bodies : List Body} →
          AreBodies others bodies → AreBodies (at env (AnExternal (decl.Declare node)) ∷ others) bodies
      empty : {env : Env} {node : Empty} {others : List Placed} {bodies : List Body} →
          AreBodies others bodies → AreBodies (at env (AnExternal (decl.Empty node)) ∷ others) bodies

    -- ---- objects of static storage with an initialiser (C99 6.7.8, 6.9.2, 1)

    -- a declarator of one
    pub record IsGivenObject (ordinal : ℕ) : Type 0 where
      pub env : Env
      pub scope : Scope
      pub node : Declare
      pub stands : IsNode externs unit env (ADeclaration scope node)
      pub env' : Env
      pub d : InitDeclarator
      pub declarator : IsDeclaratorOf scope env node env' d
      pub is_static : is_static_object scope (specifiers_of env node).storages ≡ true
      pub named : Named
      pub has_name : (declarator_found d.declarator).name ≡ Some named
      pub numbered : named.ordinal ≡ ordinal
      pub behind : Env
      pub object : Object
      pub init : Init
      pub is_given : initialiser_part scope (specifiers_of env node) env' d
          ≡ at behind (AnInitialiser (Some object) init) ∷ []

    pub record IsStaticObject (given : StaticObject) : Type 0 where
      pub of : IsGivenObject given.ordinal
      pub entity : IsEntityAt (tables_in []) given.ordinal given.entity
      pub spot : given.spot ≡ of.named.spot
      pub parts : List PartGiven
      pub are_given : AreGiven of.behind of.object.type [] of.init parts
      pub are_parts : AreStaticParts (tables_in []) parts given.parts

    -- all of them, in the order of the text
    pub record AreObjects (objects : List StaticObject) : Type 0 where
      pub each : (o : ℕ) (object : StaticObject) → slice_get objects o ≡ Some object → IsStaticObject object
      pub all : (ordinal : ℕ) → IsGivenObject ordinal →
          (o : ℕ) × (object : StaticObject) × (slice_get objects o ≡ Some object) × (object.ordinal ≡ ordinal)
      pub rise : (o p : ℕ) (a b : StaticObject) → o < p → slice_get objects o ≡ Some a →
          slice_get objects p ≡ Some b → a.ordinal < b.ordinal

  -- ---- types: the table has those of all nodes, and no list of the parts of void yet

  pub record AreTypes (table : Table) : Type 0 where
    pub is_table : IsTable table
    pub predeclared : HasPredeclared table
    pub structs : AreStructs table.types (at_end externs unit).structs table.members
    pub parts : table.parts ≡ []

  -- ---- the source

  pub record IsTypedUnit (typed : TypedUnit) : Type 0 where
    pub types : AreTypes typed.types
    pub tags : HaveTags externs unit (at_end externs unit).structs typed.structs
    pub entities : AreEntities externs unit typed.types.types typed.bodies typed.entities
    pub objects : AreObjects typed.types.types typed.entities typed.objects
    pub bodies : AreBodies typed.types.types typed.entities (externals externs unit) typed.bodies
