-- What a walk over the definition of a function needs, finds and leaves behind (C99 6.9.1).
use Rattle.std.specs.Prelude.{ℕ, ◌≡◌, ◌++◌, false, Option, Some, None, List, [], ◌∷◌, IfSome, length}
use Rattle.std.specs.Option.{option_map}
use Rattle.lk_tree.specs.declared.expression.Declarator.{Declarator}
use Rattle.lk_tree.specs.declared.specifiers.Storage.{Storage}
use Rattle.lk_tree.specs.declared.statement.Decl.TheVariants as decl
use Rattle.lk_tree.specs.declared.statement.Function.{Function}
use Rattle.lk_tree.specs.declared.statement.Stmt.{Stmt}
use Rattle.lk_tree.specs.declared.statement.StmtForm.{out-StmtForm}
use Rattle.lk_types.specs.Table.{IsKnown, Table}
use Rattle.lk_typed.specs.DeclarationRules.{AtFile, Defined, InDefinition, type_in}
use Rattle.lk_typed.specs.Declarations.{declared_as, named_additions}
use Rattle.lk_typed.specs.Entities.{NameDeclared, behind_name, defined_type}
use Rattle.lk_typed.specs.Env.{Env, enter, extend, look_up, past_scope}
use Rattle.lk_typed.specs.Expressions.{declarator_found, specifiers_found}
use Rattle.lk_typed.specs.Labels.{labels}
use Rattle.lk_typed.specs.Layers.{type_made}
use Rattle.lk_typed.specs.Meaning.{meaning}
use Rattle.lk_typed.specs.NodeParts.{behind_declarator, body_items, defined_left, external_adds, parameters_of_body, result_of}
use Rattle.lk_typed.specs.NodeRules.{mark, rules_of}
use Rattle.lk_typed.specs.Nodes.{ADeclarator, ADefinition, Declares, Placed, at}
use Rattle.lk_typed.specs.Parts.{items_add, items_in_turn, specifiers_parts}
use Rattle.lk_typed.specs.StatementRules.{in_function}
use Rattle.lk_typed.specs.Told.{Named, SpecifierTold}
use Rattle.lk_typed.specs.Ty.{Ty}
use Rattle.lk_names.specs.Growing.{InLeftScope, IsKnownLeft, IsMarkOf}
use Rattle.lk_names.specs.declared.names.Mark.{Mark}
use Rattle.lk_rules.specs.Keeping.{Kept}
use Rattle.lk_found.specs.Truth.{IsBegunAmong}
use Rattle.lk_found.specs.Declarators.{name_codes, scope_told}
use Rattle.lk_found.specs.Keepings.{Codes, KeepsAll, codes_at}
use Rattle.lk_checker.specs.States.{IsIn, kept_in}
use Rattle.lk_checker.specs.declared.checker.Checker.{Checker}
use Rattle.lk_check_walk.specs.Walks.{Walks}
use Rattle.lk_check_unit.specs.Bodies.{IsPlain}
use Rattle.lk_check_unit.specs.InitDeclarators.{PutsIfNamed}
use Rattle.lk_check_unit.specs.Later.{TellsNamingOf}
use Rattle.lk_check_unit.specs.Scoping.{IsBeside}
use Rattle.lk_check_unit.specs.declared.definitions.Headed.{Headed}

-- ---- the name of a function that is defined

-- it is declared, and its codes are kept
pub record FunctionIsNamed (at_end : Env) (old new : Checker) (env : Env) (ss : List Storage)
    (name : Option Named) (t : Option Ty) : Type 0 where
  pub behind : IsIn new (extend env (named_additions env AtFile ss Defined None name t))
  pub keeps : (others : List Placed) (more : List Codes) (last : Kept) →
      KeepsAll at_end (kept_in new) others more last →
      KeepsAll at_end (kept_in old) others
      (name_codes env t (Declares AtFile ss Defined 0 at_end) name ++ more) last
  pub puts : PutsIfNamed old new name
      (λ named. declared_as env AtFile ss Defined None named.name named.ordinal t) t

abbrev pub DefinesName : Checker → Checker → List Storage → Option Named → Option ℕ → Type 0
DefinesName old new ss name t = (at_end env : Env) → IsIn old env →
    FunctionIsNamed at_end old new env ss name (option_map (meaning old.types) t)

-- that of a declarator
abbrev pub NamesFunction : Checker → Checker → List Storage → Declarator → Option ℕ → Type 0
NamesFunction old new ss d t = DefinesName old new ss (declarator_found d).name t

-- ---- the head of a definition: its specifiers, and its declarator

-- what its specifiers tell, and the environment behind them
abbrev pub specifiers_of : Env → Function → SpecifierTold
specifiers_of env node = specifiers_found node.specifiers env false

abbrev pub behind_specifiers : Env → Function → Env
behind_specifiers env node = extend env (specifiers_of env node).additions

abbrev pub type_defined : Env → Function → Option Ty
type_defined env node =
    type_made (behind_specifiers env node) false (type_in InDefinition (specifiers_of env node))
    (declarator_found node.declarator)

-- the definition declares this name
pub record IsFunctionName (env : Env) (node : Function) (name : NameDeclared) : Type 0 where
  pub named : Named
  pub has_name : (declarator_found node.declarator).name ≡ Some named
  pub found : look_up (behind_name env node) named.name ≡ Some name.is
  pub spot : name.spot ≡ named.spot
  pub type : defined_type env node ≡ Some name.type

-- the codes of the definition itself are kept with those of its head
pub record IsHeaded (at_end env : Env) (old new : Checker) (node : Function) (headed : Headed) : Type 0 where
  pub behind : IsIn new (behind_declarator (specifiers_of env node) (behind_specifiers env node) node)
  pub returned : option_map (meaning new.types) headed.returned ≡ result_of (type_defined env node)
  pub parameters : scope_told new.types headed.parameters
      ≡ parameters_of_body (behind_specifiers env node) node
  pub keeps : (others : List Placed) (more : List Codes) (last : Kept) → let here =
      behind_specifiers env node in let left = defined_left (specifiers_of env node) at_end here node in
      KeepsAll at_end (kept_in new) others more last →
      KeepsAll at_end (kept_in old)
      (specifiers_parts false env node.specifiers ++ at here (ADeclarator left node.declarator) ∷ others)
      (codes_at (mark node.spot node.ordinal) (rules_of env (ADefinition node)) ∷ more) last
  pub records : let here = behind_specifiers env node in let left =
      defined_left (specifiers_of env node) at_end here node in
      TellsNamingOf (IsBegunAmong false env node.specifiers) (IsFunctionName env node) at_end old new
      (specifiers_parts false env node.specifiers ++ at here (ADeclarator left node.declarator) ∷ [])

abbrev pub Heads : Function → Checker → Checker → Headed → Type 0
Heads node old new headed = (at_end env : Env) → IsPlain old env → IsHeaded at_end env old new node headed

-- its types are in the table, and the structs of its tags are known
pub record IsKnownHeaded (new : Checker) (headed : Headed) : Type 0 where
  pub returned : IfSome headed.returned (IsKnown new.types)
  pub parameters : IfSome headed.parameters (IsKnownLeft new.types (length new.names.structs))

-- ---- the body, in whose outermost block the parameters stand

pub record DeclaresParameters (old new : Checker) (parameters : Option InLeftScope) : Type 0 where
  pub beside : IsBeside old new
  pub adds : (env : Env) → IsIn old env → IsIn new (extend env (scope_told old.types parameters))

pub record EntersBody (old new : Checker) (parameters : Option InLeftScope) (mark : Mark) : Type 0 where
  pub beside : IsBeside old new
  pub entered : (env : Env) → IsIn old env → IsIn new (extend (enter env) (scope_told old.types parameters))
  pub marks : (env : Env) → IsIn old env → IsMarkOf mark env

abbrev pub in_body_of : Table → Env → Headed → Env
in_body_of table env headed =
    record (extend (enter env) (scope_told table headed.parameters))
    { result = option_map (meaning table) headed.returned }

abbrev pub WalksBody : Stmt → Checker → Checker → Headed → Type 0
WalksBody s old new headed =
    (at_end env : Env) → IsPlain old env → let here = in_body_of old.types env headed in let items =
    body_items (out-StmtForm s.form) in
    Walks at_end old new env (past_scope (items_add here items))
    (items_in_turn (in_function (labels s)) here items)

-- ---- a definition

abbrev pub WalksDefinition : Function → Checker → Checker → Type 0
WalksDefinition node old new = (at_end env : Env) → IsPlain old env →
    Walks at_end old new env (external_adds env (decl.Function node)) (at env (ADefinition node) ∷ [])
