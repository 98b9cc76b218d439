-- What stands round a statement in its function, and what a walk over a statement leaves behind.
use Rattle.std.specs.Prelude.{ℕ, ◌≡◌, ◌++◌, false, ◌∷◌, [], List, Option, option_map, IfSome, if◌then◌else◌}
use Rattle.lk_base.specs.declared.code.Code.{Code}
use Rattle.lk_tree.specs.declared.declaration.Declare.{Declare}
use Rattle.lk_tree.specs.declared.expression.Expr.{Expr}
use Rattle.lk_tree.specs.declared.statement.BlockItem.TheOpen.{BlockItem-F, StmtForm-F}
use Rattle.lk_tree.specs.declared.statement.BlockItem.{BlockItem}
use Rattle.lk_tree.specs.declared.statement.ForFirst.{ForFirst}
use Rattle.lk_tree.specs.declared.statement.Stmt.{Stmt}
use Rattle.lk_tree.specs.declared.statement.StmtForm.{StmtForm}
use Rattle.lk_types.specs.Building.{IsLonger}
use Rattle.lk_types.specs.Table.{IsKnown}
use Rattle.lk_typed.specs.DeclarationRules.{InBlock}
use Rattle.lk_typed.specs.Declarations.{declaration_adds}
use Rattle.lk_typed.specs.Env.{Env, Additions, AsOperand, both, enter, extend}
use Rattle.lk_typed.specs.Faults.{Breach}
use Rattle.lk_typed.specs.Meaning.{meaning}
use Rattle.lk_typed.specs.NodeRules.{are_typed, first_rules, for_rules, optional_rules, returned, stmt_rules}
use Rattle.lk_typed.specs.Nodes.{Placed, ADeclaration, AnExpression, AStatement, at}
use Rattle.lk_typed.specs.Parts.{added_by, first_adds, first_part, item_part, items_in_turn, perhaps, statement_parts, to_result}
use Rattle.lk_typed.specs.StatementRules.{Around, in_body_of_loop, return_rules}
use Rattle.lk_typed.specs.Statements.{StmtTold, around_behind, or_nothing, scoped, statement}
use Rattle.lk_typed.specs.Ty.{Ty}
use Rattle.lk_check_decl.specs.Breaches.{told}
use Rattle.lk_check_decl.specs.Switches.{switch_of}
use Rattle.lk_labels.specs.Leasts.{AreLabels}
use Rattle.lk_rules.specs.Statements.{item_told, items_told, told_of}
use Rattle.lk_found.specs.declared.found.At.{At}
use Rattle.lk_checker.specs.States.{IsIn, IsSound}
use Rattle.lk_checker.specs.declared.checker.Checker.{Checker}
use Rattle.lk_check_walk.specs.Walks.{Walks}
use Rattle.lk_check_unit.specs.declared.body.Asked.{Asked}
use Rattle.lk_check_unit.specs.declared.body.Body.{Body}

-- ---- where a statement stands

-- in an environment of the state, as what nothing converts
pub record IsPlain (checker : Checker) (env : Env) : Type 0 where
  pub is_in : IsIn checker env
  pub role : AsOperand ≡ env.role
  pub in_size : false ≡ env.in_size

-- the code's word for what stands round a statement
pub record IsAround (body : Body) (around : Around) : Type 0 where
  pub labels : AreLabels body.labels around.labels
  pub in_loop : around.in_loop ≡ body.in_loop
  pub switch : around.switch ≡ option_map switch_of body.switch

-- in a function with the body's result
pub record IsRound (checker : Checker) (body : Body) (env : Env) (around : Around) : Type 0 where
  pub plain : IsPlain checker env
  pub result : option_map (meaning checker.types) body.returned ≡ env.result
  pub stands : IsAround body around

-- ---- what a walk needs, and keeps

-- the state is sound, and the table only grew
pub record Grows (old new : Checker) : Type 0 where
  pub sound : IsSound new
  pub longer : IsLonger old.types new.types

abbrev pub IsKnownResult : Checker → Body → Type 0
IsKnownResult checker body = IfSome body.returned (IsKnown checker.types)

-- the same behind a statement in the body
pub record Stays (old new : Checker) (before behind : Body) : Type 0 where
  pub grows : Grows old new
  pub returned : behind.returned ≡ before.returned
  pub known : IsKnownResult new behind

-- ---- expressions of statements

-- the optional expression is walked, and it is known whether it has a type, and the
-- code that holds by this rule
pub record Asks (old new : Checker) (e : Option Expr) (rule : Option Ty → List Breach)
    (asked : Asked) : Type 0 where
  pub walks : (at_end env : Env) → IsPlain old env →
      Walks at_end old new env (added_by e env) (perhaps env AnExpression e)
  pub typed : (env : Env) → IsPlain old env → asked.is_typed ≡ are_typed (perhaps env AnExpression e)
  pub code : (env : Env) → IsPlain old env → asked.code ≡ told (optional_rules env rule e)

-- ---- statements by their forms

-- the codes that hold at a statement of this form
abbrev pub form_breaches : Around → Env → ℕ → StmtForm-F BlockItem StmtForm Stmt → List Breach
form_breaches around env n f =
    if are_typed (statement_parts around env f) then stmt_rules around env n f else []

-- ---- what is left behind

-- these nodes are walked, which tell this
pub record Passes (at_end : Env) (old new : Checker) (behind : Body) (env : Env) (around : Around)
    (told : StmtTold) (nodes : List Placed) : Type 0 where
  pub walks : Walks at_end old new env told.additions nodes
  pub stands : IsAround behind (around_behind around told)

-- behind the parts of a form; its code isn't kept yet
abbrev pub WalksForm : StmtForm-F BlockItem StmtForm Stmt → ℕ → Checker → Checker → Body → Body →
    Option Code → Type 0
WalksForm f n old new before behind code = (at_end env : Env) (around : Around) →
    IsRound old before env around →
    Passes at_end old new behind env around (told_of f n env) (statement_parts around env f)
    × (code ≡ told (form_breaches around env n f))

-- behind a statement
abbrev pub WalksStatement : Stmt → Checker → Checker → Body → Body → Type 0
WalksStatement s old new before behind = (at_end env : Env) (around : Around) →
    IsRound old before env around →
    Passes at_end old new behind env around (statement s env) (at env (AStatement around s) ∷ [])

-- behind one in a scope of its own, where there is one
abbrev pub WalksScoped : Option Stmt → Checker → Checker → Body → Body → Type 0
WalksScoped s old new before behind = (at_end env : Env) (around : Around) → IsRound old before env around →
    Passes at_end old new behind env around (scoped (or_nothing (option_map statement s)) env)
    (perhaps (enter env) (AStatement around) s)

-- behind the items of a block
abbrev pub WalksItems : List BlockItem → Checker → Checker → Body → Body → Type 0
WalksItems items old new before behind = (at_end env : Env) (around : Around) →
    IsRound old before env around →
    Passes at_end old new behind env around (items_told items env) (items_in_turn around env items)

-- behind the body of a loop
abbrev pub WalksTurning : Stmt → Checker → Checker → Body → Body → Type 0
WalksTurning s old new before behind = (at_end env : Env) (around : Around) → IsRound old before env around →
    Passes at_end old new behind env around (scoped (statement s) env)
    (at (enter env) (AStatement (in_body_of_loop around) s) ∷ [])

-- ---- where a code of a statement stands

abbrev pub at_stmt : Stmt → At
at_stmt s = record { spot = s.spot; ordinal = s.ordinal }

-- the name that a code tells there
abbrev pub name_told : StmtForm-F BlockItem StmtForm Stmt → List ℕ
name_told (StmtForm-F.Label name inner) = name
name_told (StmtForm-F.Case value inner) = []
name_told (StmtForm-F.Default inner) = []
name_told (StmtForm-F.Block items) = []
name_told (StmtForm-F.Do e) = []
name_told (StmtForm-F.If e taken other) = []
name_told (StmtForm-F.Switch e inner) = []
name_told (StmtForm-F.While e inner) = []
name_told (StmtForm-F.Until inner e) = []
name_told (StmtForm-F.For start condition step inner) = []
name_told (StmtForm-F.Goto name) = name
name_told StmtForm-F.Continue = []
name_told StmtForm-F.Break = []
name_told (StmtForm-F.Return e) = []

-- ---- the parts of some statements

-- what stands in the parentheses of a for
abbrev pub head_adds : ForFirst → Option Expr → Option Expr → Env → Additions
head_adds start condition step env =
    let first = first_adds start env in
    let second = added_by condition (extend env first) in
    both first (both second (added_by step (extend (extend env first) second)))

abbrev pub head_parts : ForFirst → Option Expr → Option Expr → Env → List Placed
head_parts start condition step env =
    let behind_first = extend env (first_adds start env) in
    (first_part env start ++ perhaps behind_first AnExpression condition) ++
    perhaps (extend behind_first (added_by condition behind_first)) AnExpression step

pub record WalksHead (start : ForFirst) (condition step : Option Expr) (old new : Checker)
    (answer : Option Code) : Type 0 where
  pub walks : (at_end env : Env) → IsPlain old env →
      Walks at_end old new env (head_adds start condition step env) (head_parts start condition step env)
  pub code : (env : Env) → IsPlain old env →
      answer ≡ told (if are_typed (head_parts start condition step env) then for_rules env start condition step else [])

pub record AsksFirst (start : ForFirst) (old new : Checker) (asked : Asked) : Type 0 where
  pub walks : (at_end env : Env) → IsPlain old env →
      Walks at_end old new env (first_adds start env) (first_part env start)
  pub typed : (env : Env) → IsPlain old env → asked.is_typed ≡ are_typed (first_part env start)
  pub code : (env : Env) → IsPlain old env → asked.code ≡ told (first_rules env start)

-- a declaration in a block
abbrev pub WalksDeclaration : Declare → Checker → Checker → Type 0
WalksDeclaration node old new = (at_end env : Env) → IsPlain old env →
    Walks at_end old new env (declaration_adds InBlock env node) (at env (ADeclaration InBlock node) ∷ [])

-- a return in a function with this result
pub record WalksReturn (e : Option Expr) (old new : Checker) (result : Option ℕ)
    (answer : Option Code) : Type 0 where
  pub walks : (at_end env : Env) → IsPlain old env → option_map (meaning old.types) result ≡ env.result →
      Walks at_end old new env (added_by e env) (perhaps (to_result env env.result) AnExpression e)
  pub code : (env : Env) → IsPlain old env → option_map (meaning old.types) result ≡ env.result →
      answer ≡ told (if are_typed (perhaps (to_result env env.result) AnExpression e) then return_rules env.result (returned env e) else [])

-- behind an item of a block
abbrev pub WalksItem : BlockItem-F BlockItem StmtForm Stmt → Checker → Checker → Body → Body → Type 0
WalksItem item old new before behind = (at_end env : Env) (around : Around) → IsRound old before env around →
    Passes at_end old new behind env around (item_told item env) (item_part around env item ∷ [])
