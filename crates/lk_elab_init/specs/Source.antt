-- What is known of a source whose typed tree is made: what was found at its nodes is true of them, and whole.
use Rattle.std.specs.Prelude.{◌≡◌, Option, Some, List, nat_eq, All}
use Rattle.std.specs.Map.{lookup}
use Rattle.lk_tree.specs.declared.declaration.Declare.{Declare}
use Rattle.lk_tree.specs.declared.declaration.Init.{Init, out-Init}
use Rattle.lk_tree.specs.declared.declaration.Init.TheOpen.{Init-F}
use Rattle.lk_tree.specs.declared.declaration.InitDeclarator.{InitDeclarator}
use Rattle.lk_tree.specs.declared.expression.Expr.{Expr}
use Rattle.lk_tree.specs.declared.statement.Function.{Function as Definition}
use Rattle.lk_tree.specs.declared.statement.Unit.{Unit}
use Rattle.lk_typed.specs.DeclarationRules.{Scope}
use Rattle.lk_typed.specs.Entities.{DeclaresName, IsDeclaratorOf, NameDeclared, specifiers_of}
use Rattle.lk_typed.specs.Entities as entities
use Rattle.lk_typed.specs.Env.{Env, Name}
use Rattle.lk_typed.specs.Expressions.{declarator_found, expr_word}
use Rattle.lk_typed.specs.InitialiserRules.{Object}
use Rattle.lk_typed.specs.Meaning.{IsReady}
use Rattle.lk_typed.specs.NodeParts.{type_declared}
use Rattle.lk_typed.specs.Nodes.{ADeclaration, ADefinition, AnInitialiser, Node}
use Rattle.lk_typed.specs.Structs.{HaveTags}
use Rattle.lk_typed.specs.Told.{Named}
use Rattle.lk_typed.specs.Ty.{Ty}
use Rattle.lk_typed.specs.Typings.{structs_in, HasKnownFields}
use Rattle.lk_typed.specs.Units.{IsNode, at_end}
use Rattle.lk_nodes.specs.Settled.{AreSettled}
use Rattle.lk_found.specs.Structs.{AreListed}
use Rattle.lk_found.specs.Uses.{taken_in, word_in}
use Rattle.lk_found.specs.Findings.{IsDeclaredAs, IsOfKind}
use Rattle.lk_found.specs.declared.records.DeclaredHere.{DeclaredHere}
use Rattle.lk_found.specs.declared.records.InitialiserKind.{InitialiserKind}
use Rattle.lk_checker.specs.Sources.{AreUses}
use Rattle.lk_elaborator.specs.Telling.{IsTold}
use Rattle.lk_elaborator.specs.declared.elaborator.Elaborator.{Elaborator}

pub record IsToldSource (externs : List Name) (unit : Unit) (walk : Elaborator) : Type 0 where
  pub ready : IsReady walk.types
  -- of each expression and type name that stands in a node
  pub told : (env : Env) (node : Node) → IsNode externs unit env node →
      IsTold (at_end externs unit) walk env node
  pub initialisers : (env : Env) (object : Option Object) (init : Init) (e : Expr) (kind : InitialiserKind) →
      IsNode externs unit env (AnInitialiser object init) → out-Init init ≡ Init-F.Expr e →
      lookup (nat_eq e.ordinal) walk.records.initialisers ≡ Some kind →
      IsOfKind walk.types kind (expr_word e env)
  pub declared : (env : Env) (node : Node) (n : NameDeclared) (d : DeclaredHere) →
      IsNode externs unit env node → DeclaresName env node n →
      lookup (nat_eq n.is.ordinal) walk.records.declared ≡ Some d → IsDeclaredAs walk.types d n
  -- what was recorded has a type
  pub declared_type : (env : Env) (scope : Scope) (node : Declare) (here : Env) (d : InitDeclarator)
      (named : Named) (is : DeclaredHere) → IsNode externs unit env (ADeclaration scope node) →
      IsDeclaratorOf scope env node here d → (declarator_found d.declarator).name ≡ Some named →
      lookup (nat_eq named.ordinal) walk.records.declared ≡ Some is →
      (t : Ty) × (type_declared scope (specifiers_of env node) here d ≡ Some t)
  pub defined_type : (env : Env) (node : Definition) (named : Named) (is : DeclaredHere) →
      IsNode externs unit env (ADefinition node) → (declarator_found node.declarator).name ≡ Some named →
      lookup (nat_eq named.ordinal) walk.records.declared ≡ Some is →
      (t : Ty) × (entities.defined_type env node ≡ Some t)
  pub uses : AreUses externs unit word_in walk.records.first_uses
  pub taken : AreUses externs unit taken_in walk.records.taken
  -- the structs at the end of the source, with their members and tags
  pub structs : structs_in walk.types walk.names.structs ≡ (at_end externs unit).structs
  pub listed : AreListed walk.types walk.names.structs
  pub fields : All (HasKnownFields walk.types) walk.names.structs
  pub tags : HaveTags externs unit (at_end externs unit).structs walk.records.tags
  -- and those of objects with initialisers there
  pub settled : AreSettled externs unit
