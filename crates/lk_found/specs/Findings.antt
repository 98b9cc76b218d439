-- What is found of expressions and type names, in the words of the rules, and of which node it is recorded.
use Rattle.std.specs.Prelude.{ℕ, ◌≡◌, Option, Some, None, option_map}
use Rattle.lk_types.specs.Table.{Table, IsKnown}
use Rattle.lk_tree.specs.declared.declaration.Init.{Init, out-Init}
use Rattle.lk_tree.specs.declared.declaration.Init.TheOpen.{Init-F}
use Rattle.lk_tree.specs.declared.expression.DeclaratorForm.TheOpen.{ExprForm-F}
use Rattle.lk_tree.specs.declared.expression.DeclaratorForm.{DeclaratorForm}
use Rattle.lk_tree.specs.declared.expression.Declarator.{Declarator}
use Rattle.lk_tree.specs.declared.expression.Expr.{Expr}
use Rattle.lk_tree.specs.declared.expression.ExprForm.{ExprForm}
use Rattle.lk_tree.specs.declared.expression.Item.{Item}
use Rattle.lk_tree.specs.declared.expression.Member.{Member}
use Rattle.lk_tree.specs.declared.expression.MemberDeclarator.{MemberDeclarator}
use Rattle.lk_tree.specs.declared.expression.Parameter.{Parameter}
use Rattle.lk_tree.specs.declared.expression.Specifier.{Specifier}
use Rattle.lk_tree.specs.declared.expression.TypeName.{TypeName, out-TypeName}
use Rattle.lk_typed.specs.Entities.{DeclaresName, NameDeclared}
use Rattle.lk_typed.specs.Env.{Env}
use Rattle.lk_typed.specs.ExprRules.{additions_of, look_of, rule}
use Rattle.lk_typed.specs.Expressions.{expr_word, expression}
use Rattle.lk_base.specs.declared.refusal.Refusal.{Refusal}
use Rattle.lk_typed.specs.Faults.{Fault}
use Rattle.lk_typed.specs.InitialiserRules.{Object}
use Rattle.lk_typed.specs.Meaning.{meaning}
use Rattle.lk_typed.specs.Names.{IsKnownMeaning, meaning_in}
use Rattle.lk_typed.specs.Nodes.{AnExpression, AnInitialiser, ATypeName, Node}
use Rattle.lk_typed.specs.NodeRules.{mark}
use Rattle.lk_typed.specs.Stands.{Mark}
use Rattle.lk_typed.specs.Ty.{Ty}
use Rattle.lk_typed.specs.Typing.{Typing, Judged, Named, typing_of}
use Rattle.lk_typed.specs.Typings.{IsTyping}
use Rattle.lk_typed.specs.declared.typed.Typed.{Typed}
use Rattle.lk_rules.specs.Laws.{name_found}
use Rattle.lk_check_expr.specs.Looks.{IsLook}
use Rattle.lk_found.specs.Addresses.{kept_of}
use Rattle.lk_found.specs.declared.found.At.{At}
use Rattle.lk_found.specs.declared.found.Found.{Found}
use Rattle.lk_found.specs.declared.found.TypeFound.{TypeFound}
use Rattle.lk_found.specs.declared.records.DeclaredHere.{DeclaredHere}
use Rattle.lk_found.specs.declared.records.InitialiserKind.{InitialiserKind}
use Rattle.lk_found.specs.declared.records.InitialiserKind.TheVariants.{Value, Word}

abbrev pub mark_at : At → Mark
mark_at at = mark at.spot at.ordinal

-- what is told in the end
abbrev pub refusal_of : Fault → Refusal
refusal_of f = record { code = f.breach.code; spot = f.spot; name = f.breach.name }

-- ---- what is found

abbrev pub IsFoundTyping : Table → Found → Option Typing → Type 0
IsFoundTyping table found None = found.typing ≡ None
IsFoundTyping table found (Some x) =
    (t : Typed) × (found.typing ≡ Some t) × IsTyping table t x × (found.address ≡ kept_of x.address)

pub record IsFound (table : Table) (env : Env) (found : Found) (x : Judged) : Type 0 where
  pub typing : IsFoundTyping table found x.typing
  pub look : IsLook env found.look x.look

pub record IsFoundType (table : Table) (found : TypeFound) (x : Named) : Type 0 where
  pub type : option_map (meaning table) found.ty ≡ x.type
  pub holds_sizeof : found.holds_sizeof ≡ x.holds_sizeof

-- ---- what is recorded

-- this was found of the expression with this number
pub record IsOfExpression (table : Table) (n : ℕ) (result : Found) (env : Env) (node : Node) : Type 0 where
  pub e : Expr
  pub is : node ≡ AnExpression e
  pub number : n ≡ e.ordinal
  pub found : IsFound table env result (expression e env)

-- the type name with this number names this type
pub record IsOfTypeName (table : Table) (n t : ℕ) (env : Env) (node : Node) : Type 0 where
  pub name : TypeName
  pub is : node ≡ ATypeName name
  pub number : n ≡ (out-TypeName name).ordinal
  pub known : IsKnown table t
  pub type : (name_found name env).type ≡ Some (meaning table t)

-- the initialiser that is the expression with this number is an initialiser word
-- for objects of a type, or none
abbrev pub IsOfKind : Table → InitialiserKind → Option Ty → Type 0
IsOfKind table (Word t) word = IsKnown table t × (word ≡ Some (meaning table t))
IsOfKind table Value word = word ≡ None

pub record IsOfInitialiser (table : Table) (n : ℕ) (kind : InitialiserKind) (env : Env)
    (node : Node) : Type 0 where
  pub object : Option Object
  pub init : Init
  pub is : node ≡ AnInitialiser object init
  pub e : Expr
  pub form : out-Init init ≡ Init-F.Expr e
  pub number : n ≡ e.ordinal
  pub kind_is : IsOfKind table kind (expr_word e env)

-- a name is declared as it was recorded
pub record IsDeclaredAs (table : Table) (d : DeclaredHere) (name : NameDeclared) : Type 0 where
  pub meaning_is : meaning_in table d.meaning ≡ name.is.meaning
  pub known_meaning : IsKnownMeaning table d.meaning
  pub linkage : d.linkage ≡ name.is.linkage
  pub defines : d.defines ≡ name.is.defines
  pub known : IsKnown table d.ty
  pub type : meaning table d.ty ≡ name.type

-- a node declares the name with this number so
pub record IsOfName (table : Table) (n : ℕ) (d : DeclaredHere) (env : Env) (node : Node) : Type 0 where
  pub name : NameDeclared
  pub declares : DeclaresName env node name
  pub number : n ≡ name.is.ordinal
  pub declared_as : IsDeclaredAs table d name

-- ---- an expression whose parts are judged

-- its form, by what was found of the parts
abbrev pub JudgedForm : Type 0
JudgedForm =
    ExprForm-F DeclaratorForm ExprForm MemberDeclarator Specifier Declarator Judged Item
    Member Parameter Named

-- what is found of it, in the environment where it begins and in that behind its parts
abbrev pub judged_of : Env → Env → ℕ → JudgedForm → Judged
judged_of env behind n form =
    record { typing = typing_of (rule behind n form); look = look_of env form; adds = additions_of form }
