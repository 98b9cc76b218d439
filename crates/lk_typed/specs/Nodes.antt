-- The nodes of a source, with what each is given beside its environment.
use Rattle.std.specs.Prelude.{ℕ, Bool, Option, List, ℤ}
use Rattle.lk_tree.specs.declared.declaration.Declare.{Declare}
use Rattle.lk_tree.specs.declared.declaration.Init.{Init}
use Rattle.lk_tree.specs.declared.expression.Declarator.{Declarator}
use Rattle.lk_tree.specs.declared.expression.Expr.{Expr}
use Rattle.lk_tree.specs.declared.expression.Item.{Item}
use Rattle.lk_tree.specs.declared.expression.Member.{Member}
use Rattle.lk_tree.specs.declared.expression.Parameter.{Parameter}
use Rattle.lk_tree.specs.declared.expression.TypeName.{TypeName}
use Rattle.lk_tree.specs.declared.specifiers.Storage.{Storage}
use Rattle.lk_tree.specs.declared.statement.Decl.{Decl}
use Rattle.lk_tree.specs.declared.statement.Function.{Function}
use Rattle.lk_tree.specs.declared.statement.Stmt.{Stmt}
use Rattle.lk_typed.specs.DeclarationRules.{Scope, Given}
use Rattle.lk_typed.specs.Env.{Env, Field}
use Rattle.lk_typed.specs.InitialiserRules.{Object}
use Rattle.lk_typed.specs.StatementRules.{Around}
use Rattle.lk_typed.specs.Ty.{Ty}

-- what the name in a declarator becomes
pub data NameUse : Type 0 where
  -- an object, a function or a typedef; with how many elements it has by its initialiser, and the
  -- environment behind the whole source
  Declares : Scope → List Storage → Given → ℕ → Env → NameUse
  -- a member, behind these fields
  IsMember : List Field → NameUse
  IsParameter : NameUse
  -- there is none
  Unnamed : NameUse

-- what a declarator is given
pub record Left : Type 0 where
  -- the type on its left, missing where that is faulty
  pub type : Option Ty
  -- whether `[]` may stand
  pub may_be_absent : Bool
  -- the environment behind the whole declarator: the scope of its name begins there (C99 6.2.1, 7)
  pub behind : Env
  pub use_of_name : NameUse
  -- whether it is no part of another declarator
  pub is_whole : Bool

pub data Node : Type 0 where
  AnExternal : Decl → Node
  ADeclaration : Scope → Declare → Node
  ADefinition : Function → Node
  -- a member, behind these fields
  AMember : List Field → Member → Node
  -- an enumerator, behind one of this value
  AnItem : Option ℤ → Item → Node
  -- a parameter, and whether it is the only one of its list, without dots
  AParameter : Bool → Parameter → Node
  ATypeName : TypeName → Node
  ADeclarator : Left → Declarator → Node
  -- an initialiser of this object, missing where its declaration is faulty
  AnInitialiser : Option Object → Init → Node
  AStatement : Around → Stmt → Node
  AnExpression : Expr → Node

-- a node in its environment
pub record Placed : Type 0 where
  pub env : Env
  pub node : Node

abbrev pub at : Env → Node → Placed
at env node = record { env = env; node = node }
