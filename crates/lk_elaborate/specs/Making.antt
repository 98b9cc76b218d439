-- What is made of the statements of a source (C99 6.8), in tables to which the state leads.
use Rattle.std.specs.Prelude.{ℕ, ◌≡◌, ◌++◌, false, Option, Some, None, List, [], ◌∷◌, option_map}
use Rattle.lk_base.specs.declared.kind.Kind.{Kind}
use Rattle.lk_tree.specs.declared.declaration.Declare.{Declare}
use Rattle.lk_tree.specs.declared.expression.Expr.{Expr}
use Rattle.lk_tree.specs.declared.statement.BlockItem.{BlockItem, out-BlockItem}
use Rattle.lk_tree.specs.declared.statement.BlockItem.TheOpen.{StmtForm-F}
use Rattle.lk_tree.specs.declared.statement.ForFirst.{ForFirst}
use Rattle.lk_tree.specs.declared.statement.Stmt.{Stmt}
use Rattle.lk_tree.specs.declared.statement.StmtForm.{StmtForm, out-StmtForm}
use Rattle.lk_tree.specs.declared.statement.Unit.{Unit}
use Rattle.lk_types.specs.Table.{IsKnown}
use Rattle.lk_typed.specs.DeclarationRules.{InBlock}
use Rattle.lk_typed.specs.Addresses.{value}
use Rattle.lk_typed.specs.Elaborated.{InPlace, IsConverted, IsValue, typing_at}
use Rattle.lk_typed.specs.Env.{Env, Name, AsOperand, ConvertedTo}
use Rattle.lk_typed.specs.Expressions.{expr_constant}
use Rattle.lk_typed.specs.LocalInits.{IsBlockDeclaration}
use Rattle.lk_typed.specs.Meaning.{meaning}
use Rattle.lk_typed.specs.Nodes.{Placed, ADeclaration, AStatement, AnExpression, at}
use Rattle.lk_typed.specs.Operands.{promoted_type}
use Rattle.lk_typed.specs.Parts.{first_part, item_part, items_in_turn, perhaps, statement_parts}
use Rattle.lk_typed.specs.Stands.{IsIn}
use Rattle.lk_typed.specs.StatementRules as spec
use Rattle.lk_typed.specs.StatementRules.{case_value}
use Rattle.lk_typed.specs.Statements.{StmtTold, or_nothing, statement, switch_kind}
use Rattle.lk_typed.specs.Tables.{Tables}
use Rattle.lk_typed.specs.TypedStatements.{AreCases, AreItems, IsDefault, IsElse, IsFirst, IsPerhaps, IsStmt, MakesStmt}
use Rattle.lk_typed.specs.Typing.{Typing}
use Rattle.lk_typed.specs.Units.{IsNode}
use Rattle.lk_typed.specs.declared.constant.Constant.{Constant}
use Rattle.lk_typed.specs.declared.expression.TypedExpr.{TypedExpr}
use Rattle.lk_typed.specs.declared.statement.LocalInit.{LocalInit}
use Rattle.lk_typed.specs.declared.statement.SwitchCase.{SwitchCase}
use Rattle.lk_typed.specs.declared.statement.TypedFirst.{TypedFirst}
use Rattle.lk_typed.specs.declared.statement.TypedItem.{TypedItem}
use Rattle.lk_typed.specs.declared.statement.TypedItem.TheOpen.{TypedStmtForm-F}
use Rattle.lk_typed.specs.declared.statement.TypedStmt.{TypedStmt}
use Rattle.lk_typed.specs.declared.statement.TypedStmtForm.{TypedStmtForm}
use Rattle.lk_labels.specs.Leasts.{AreLabels}
use Rattle.lk_rules.specs.Statements.{item_told, items_told, told_of}
use Rattle.lk_elaborator.specs.Leading.{Grows, GoesOn, Leads}
use Rattle.lk_elaborator.specs.declared.elaborator.Elaborator.{Elaborator}
use Rattle.lk_elab_init.specs.Source.{IsToldSource}
use Rattle.lk_elaborate.specs.declared.cases.Cases.{Cases}
use Rattle.lk_elaborate.specs.declared.statements.Around.{Around}

-- these nodes stand in a source whose typed tree is made
pub record StandIn (walk : Elaborator) (placed : List Placed) : Type 0 where
  pub externs : List Name
  pub unit : Unit
  pub told : IsToldSource externs unit walk
  pub each : (part : Placed) → IsIn part placed → IsNode externs unit part.env part.node

-- the code's word for what stands round a statement, in a function with this result
pub record IsRound (walk : Elaborator) (round : Around) (env : Env) (around : spec.Around) : Type 0 where
  pub role : env.role ≡ AsOperand
  pub labels : AreLabels round.labels around.labels
  pub known : IsKnown walk.types round.returned
  pub result : env.result ≡ Some (meaning walk.types round.returned)

-- where these nodes stand in the source, this is so in the tables
abbrev pub MakesOf : Elaborator → Elaborator → List Placed → (Tables → Type 0) → Type 0
MakesOf old new placed Says = StandIn old placed → (tables : Tables) → Leads new tables → Says tables

-- ---- expressions

abbrev pub MakesValue : Elaborator → Elaborator → Expr → TypedExpr → Type 0
MakesValue old new e t =
    (env : Env) → MakesOf old new (at env (AnExpression e) ∷ []) (λ tables. IsValue tables false (env, e) t)

abbrev pub MakesPerhaps : Elaborator → Elaborator → Option Expr → Option TypedExpr → Type 0
MakesPerhaps old new e t =
    (env : Env) → MakesOf old new (perhaps env AnExpression e)
    (λ tables. IsPerhaps tables e (perhaps env AnExpression e) t)

-- a value that is converted to the type with a number
abbrev pub MakesGiven : Elaborator → Elaborator → Expr → ℕ → TypedExpr → Type 0
MakesGiven old new e r t =
    (env : Env) → env.role ≡ ConvertedTo (meaning old.types r) →
    MakesOf old new (at env (AnExpression e) ∷ [])
    (λ tables. IsConverted tables false (env, e) (meaning old.types r) t)

-- the value of an expression, promoted (C99 6.3.1.1, 2)
pub record IsPromoted (tables : Tables) (p : InPlace) (t : TypedExpr) : Type 0 where
  pub typing : Typing
  pub found : typing_at p ≡ Some typing
  pub converted : IsConverted tables false p (promoted_type (value typing).type) t

-- the value of a switch
abbrev pub MakesSwitched : Elaborator → Elaborator → Expr → TypedExpr → Type 0
MakesSwitched old new e t = (env : Env) → env.role ≡ AsOperand →
    MakesOf old new (at env (AnExpression e) ∷ []) (λ tables. IsPromoted tables (env, e) t)

-- ---- declarations

abbrev pub MakesDeclaration : Elaborator → Elaborator → Declare → List LocalInit → Type 0
MakesDeclaration old new node inits =
    (env : Env) → MakesOf old new (at env (ADeclaration InBlock node) ∷ [])
    (λ tables. IsBlockDeclaration tables env node inits)

-- ---- the head of a for

abbrev pub MakesFirst : Elaborator → Elaborator → ForFirst → TypedFirst → Type 0
MakesFirst old new first t =
    (env : Env) → MakesOf old new (first_part env first)
    (λ tables. IsFirst tables first (first_part env first) t)

-- ---- statements, with what stands round them

-- this is so of nodes that stand so in an environment
abbrev pub MakesRound : Elaborator → Elaborator → Around → (Env → spec.Around → List Placed) →
    (Env → spec.Around → Tables → Type 0) → Type 0
MakesRound old new round placed Says =
    (env : Env) (around : spec.Around) → IsRound old round env around →
    MakesOf old new (placed env around) (Says env around)

abbrev pub MakesStatement : Elaborator → Elaborator → Around → Stmt → TypedStmt → Type 0
MakesStatement old new round s t =
    MakesRound old new round (λ env around. at env (AStatement around s) ∷ [])
    (λ env around tables. IsStmt tables env around s t)

abbrev pub MakesElse : Elaborator → Elaborator → Around → Option Stmt → Option TypedStmt → Type 0
MakesElse old new round s t =
    MakesRound old new round (λ env around. perhaps env (AStatement around) s)
    (λ env around tables. IsElse tables s (perhaps env (AStatement around) s) t)

abbrev pub MakesItems : Elaborator → Elaborator → Around → List BlockItem → List TypedItem → Type 0
MakesItems old new round items made =
    MakesRound old new round (λ env around. items_in_turn around env items)
    (λ env around tables. AreItems tables (items_in_turn around env items) made)

abbrev pub MakesItem : Elaborator → Elaborator → Around → BlockItem → TypedItem → Type 0
MakesItem old new round item made =
    MakesRound old new round (λ env around. item_part around env (out-BlockItem item) ∷ [])
    (λ env around tables. AreItems tables (item_part around env (out-BlockItem item) ∷ []) (made ∷ []))

-- what a typed statement is made of
abbrev pub OpenForm : Type 0
OpenForm = TypedStmtForm-F TypedItem TypedStmtForm TypedStmt

-- a statement of this form
abbrev pub MakesForm : Elaborator → Elaborator → Around →
    StmtForm-F BlockItem StmtForm Stmt → OpenForm → Type 0
MakesForm old new round f made =
    MakesRound old new round (λ env around. statement_parts around env f)
    (λ env around tables. (s : Stmt) (t : TypedStmt) → out-StmtForm s.form ≡ f → MakesStmt s made t → IsStmt tables env around s t)

-- ---- the cases of a switch (C99 6.8.4.2)

-- the value of the switch is of this kind
abbrev pub IsKindOf : Elaborator → Expr → Option Kind → Type 0
IsKindOf walk e kind = (env : Env) → env.role ≡ AsOperand → StandIn walk (at env (AnExpression e) ∷ []) →
    switch_kind e env ≡ kind

-- these are the cases that belong to a switch round a statement
pub record HasCases (kind : Option Kind) (s : Stmt) (env : Env) (found : Cases) : Type 0 where
  pub cases : AreCases kind (statement s env).cases found.cases
  pub default : IsDefault (statement s env).defaults found.default

abbrev pub FindsCases : Elaborator → Option Kind → Stmt → Cases → Type 0
FindsCases walk kind s found =
    (env : Env) (around : spec.Around) → env.role ≡ AsOperand →
    StandIn walk (at env (AStatement around s) ∷ []) → HasCases kind s env found

-- what is found behind what was found before
pub record PutsCases (kind : Option Kind) (told : StmtTold) (old new : Cases) : Type 0 where
  pub added : List SwitchCase
  pub cases : new.cases ≡ old.cases ++ added
  pub are : AreCases kind told.cases added
  pub default : (before : List ℕ) → IsDefault before old.default →
      IsDefault (before ++ told.defaults) new.default

abbrev pub PutsOf : Elaborator → Option Kind → Stmt → Cases → Cases → Type 0
PutsOf walk kind s old new =
    (env : Env) (around : spec.Around) → env.role ≡ AsOperand →
    StandIn walk (at env (AStatement around s) ∷ []) → PutsCases kind (statement s env) old new

-- where the expression stands in the source as the value of a case, this is that case
pub record IsCase (kind : Option Kind) (e : Expr) (env : Env) (n : ℕ) (found : SwitchCase) : Type 0 where
  pub value : case_value kind (expr_constant e env) ≡ Some found.value
  pub ordinal : found.ordinal ≡ n

-- where the expression stands in the source, it is this as an integer constant expression
abbrev pub IsConstantOf : Elaborator → Expr → Constant → Type 0
IsConstantOf walk e c = (env : Env) → env.role ≡ AsOperand → StandIn walk (at env (AnExpression e) ∷ []) →
    expr_constant e env ≡ Some c

abbrev pub IsCaseOf : Elaborator → Option Kind → Expr → ℕ → SwitchCase → Type 0
IsCaseOf walk kind e n found = (env : Env) → env.role ≡ AsOperand →
    StandIn walk (at env (AnExpression e) ∷ []) → IsCase kind e env n found

-- where a statement of this form with this number stands
abbrev pub PutsOfForm : Elaborator → Option Kind → StmtForm-F BlockItem StmtForm Stmt → ℕ →
    Cases → Cases → Type 0
PutsOfForm walk kind f n old new =
    (env : Env) (around : spec.Around) → env.role ≡ AsOperand → StandIn walk (statement_parts around env f) →
    PutsCases kind (told_of f n env) old new

abbrev pub PutsOfCase : Elaborator → Option Kind → Expr → Stmt → ℕ → Cases → Cases → Type 0
PutsOfCase walk kind e inner n old new = PutsOfForm walk kind (StmtForm-F.Case e inner) n old new

abbrev pub PutsOfDefault : Elaborator → Option Kind → Stmt → ℕ → Cases → Cases → Type 0
PutsOfDefault walk kind inner n old new = PutsOfForm walk kind (StmtForm-F.Default inner) n old new

abbrev pub PutsOfChoice : Elaborator → Option Kind → Stmt → Option Stmt → Cases → Cases → Type 0
PutsOfChoice walk kind taken other old new =
    (e : Expr) (n : ℕ) → PutsOfForm walk kind (StmtForm-F.If e taken other) n old new

-- a default is put
pub record BeginsDefault (n : ℕ) (old new : Cases) : Type 0 where
  pub none : old.default ≡ None
  pub cases : new.cases ≡ old.cases
  pub default : new.default ≡ Some n

abbrev pub PutsOfItem : Elaborator → Option Kind → BlockItem → Cases → Cases → Type 0
PutsOfItem walk kind item old new =
    (env : Env) (around : spec.Around) → env.role ≡ AsOperand →
    StandIn walk (item_part around env (out-BlockItem item) ∷ []) →
    PutsCases kind (item_told (out-BlockItem item) env) old new

abbrev pub PutsOfElse : Elaborator → Option Kind → Option Stmt → Cases → Cases → Type 0
PutsOfElse walk kind s old new =
    (env : Env) (around : spec.Around) → env.role ≡ AsOperand →
    StandIn walk (perhaps env (AStatement around) s) →
    PutsCases kind (or_nothing (option_map statement s) env) old new

abbrev pub PutsOfItems : Elaborator → Option Kind → List BlockItem → Cases → Cases → Type 0
PutsOfItems walk kind items old new =
    (env : Env) (around : spec.Around) → env.role ≡ AsOperand →
    StandIn walk (items_in_turn around env items) → PutsCases kind (items_told items env) old new

-- ---- a switch, an if and the head of a for

-- the cases of a switch with this value
abbrev pub FindsSwitch : Elaborator → Expr → Stmt → Cases → Type 0
FindsSwitch walk e inner found =
    (env behind : Env) (around : spec.Around) → env.role ≡ AsOperand → behind.role ≡ AsOperand →
    StandIn walk (at env (AnExpression e) ∷ []) → StandIn walk (at behind (AStatement around inner) ∷ []) →
    HasCases (switch_kind e env) inner behind found

-- an if of these parts, whose condition is made last
pub record MakesIf (old new : Elaborator) (e : Expr) (taken : TypedStmt) (other : Option TypedStmt)
    (form : OpenForm) : Type 0 where
  pub condition : TypedExpr
  pub is : form ≡ TypedStmtForm-F.If condition taken other
  pub makes : MakesValue old new e condition

-- the three parts, one behind the other
pub record MakesHead (old new : Elaborator) (start : ForFirst) (condition step : Option Expr) (f : TypedFirst)
    (c d : Option TypedExpr) : Type 0 where
  pub first : Elaborator
  pub second : Elaborator
  pub first_on : GoesOn old first
  pub first_makes : MakesFirst old first start f
  pub second_grows : Grows first second
  pub second_makes : MakesPerhaps first second condition c
  pub third_grows : Grows second new
  pub third_makes : MakesPerhaps second new step d
