-- The parts of a node, each in its environment: the one place that says which names stand where (C99 6.2.1).
use Rattle.std.specs.Prelude.{Bool, true, false, not, Option, Some, None, List, [], ◌∷◌, ◌++◌, map, ℤ}
use Rattle.lk_tree.specs.declared.expression.DeclaratorForm.TheOpen.{DeclaratorForm-F, Specifier-F}
use Rattle.lk_tree.specs.declared.expression.Declarator.{Declarator}
use Rattle.lk_tree.specs.declared.expression.DeclaratorForm.{DeclaratorForm}
use Rattle.lk_tree.specs.declared.expression.Expr.{Expr}
use Rattle.lk_tree.specs.declared.expression.ExprForm.{ExprForm}
use Rattle.lk_tree.specs.declared.expression.Item.{Item}
use Rattle.lk_tree.specs.declared.expression.Member.{Member}
use Rattle.lk_tree.specs.declared.expression.MemberDeclarator.{MemberDeclarator}
use Rattle.lk_tree.specs.declared.expression.Parameter.{Parameter}
use Rattle.lk_tree.specs.declared.expression.Specifier.{Specifier, out-Specifier}
use Rattle.lk_tree.specs.declared.expression.TypeName.{TypeName}
use Rattle.lk_tree.specs.declared.statement.BlockItem.TheOpen.{BlockItem-F, StmtForm-F}
use Rattle.lk_tree.specs.declared.statement.BlockItem.{BlockItem, out-BlockItem}
use Rattle.lk_tree.specs.declared.statement.ForFirst.{ForFirst}
use Rattle.lk_tree.specs.declared.statement.ForFirst.TheVariants as first
use Rattle.lk_tree.specs.declared.statement.Stmt.{Stmt}
use Rattle.lk_tree.specs.declared.statement.StmtForm.{StmtForm}
use Rattle.lk_typed.specs.DeclarationRules.{InBlock}
use Rattle.lk_typed.specs.Declarations.{declaration_adds}
use Rattle.lk_typed.specs.DeclaratorRules.{Size}
use Rattle.lk_typed.specs.Layers.{ParameterTeller, array_by, function_by, parameters_of, pointer_made}
use Rattle.lk_typed.specs.MemberRules.{within_bounds}
use Rattle.lk_typed.specs.Env.{Env, Additions, Field, nothing, both, past_scope, extend, enter, converted_to}
use Rattle.lk_typed.specs.Nodes.{Node, ADeclaration, AMember, AnItem, AParameter, ADeclarator, AStatement, AnExpression, Placed, at, Left}
use Rattle.lk_typed.specs.StatementRules.{Around, behind_cases, in_body_of_loop, in_body_of_switch}
use Rattle.lk_typed.specs.Told.{Span, before_first, struct_begins}
use Rattle.lk_typed.specs.Ty.{Ty}
use Rattle.lk_typed.specs.Statements.{around_behind, statement, stmt_adds, switch_kind}
use Rattle.lk_typed.specs.Expressions.{declarator_found, expr_adds, expr_constant, item_found, member_found, parameter_found, specifiers_found}

-- one part, if it is there
abbrev pub perhaps : {A : Type 0} → Env → (A → Node) → Option A → List Placed
perhaps env node None = []
perhaps env node (Some a) = at env (node a) ∷ []

-- ---- statements (C99 6.8): their substatements are scopes of their own, and so is a block

-- what an optional expression adds
abbrev pub added_by : Option Expr → Env → Additions
added_by None env = nothing
added_by (Some e) env = expr_adds e env

abbrev pub item_adds : BlockItem-F BlockItem StmtForm Stmt → Env → Additions
item_adds (BlockItem-F.Declare node) env = declaration_adds InBlock env node
item_adds (BlockItem-F.Stmt inner) env = stmt_adds inner env

-- what the items of a block add, each behind those before it
abbrev pub items_add : Env → List BlockItem → Additions
items_add env [] = nothing
items_add env (i ∷ is) = let a = item_adds (out-BlockItem i) env in both a (items_add (extend env a) is)

abbrev pub item_part : Around → Env → BlockItem-F BlockItem StmtForm Stmt → Placed
item_part around env (BlockItem-F.Declare node) = at env (ADeclaration InBlock node)
item_part around env (BlockItem-F.Stmt inner) = at env (AStatement around inner)

-- what stands round the items behind one
abbrev pub item_around : Around → Env → BlockItem-F BlockItem StmtForm Stmt → Around
item_around around env (BlockItem-F.Declare node) = around
item_around around env (BlockItem-F.Stmt inner) = around_behind around (statement inner env)

-- the items of a block, each behind what those before it add
abbrev pub items_in_turn : Around → Env → List BlockItem → List Placed
items_in_turn around env [] = []
items_in_turn around env (i ∷ is) =
    item_part around env (out-BlockItem i) ∷
    items_in_turn (item_around around env (out-BlockItem i))
    (extend env (item_adds (out-BlockItem i) env)) is

abbrev pub first_part : Env → ForFirst → List Placed
first_part env (first.Expr e) = perhaps env AnExpression e
first_part env (first.Declare node) = at env (ADeclaration InBlock node) ∷ []

abbrev pub first_adds : ForFirst → Env → Additions
first_adds (first.Expr e) env = added_by e env
first_adds (first.Declare node) env = declaration_adds InBlock env node

-- the parts of a for, whose first part stands in a scope round all of it (C99 6.8.5, 5; 6.8.5.3)
abbrev pub for_parts : Around → Env → ForFirst → Option Expr → Option Expr → Stmt → List Placed
for_parts around env start condition step inner =
    let behind_first = extend env (first_adds start env) in
    let behind_condition = extend behind_first (added_by condition behind_first) in
    let behind_step = extend behind_condition (added_by step behind_condition) in
    first_part env start ++ perhaps behind_first AnExpression condition ++
    perhaps behind_condition AnExpression step ++
    at (enter behind_step) (AStatement (in_body_of_loop around) inner) ∷ []

-- the environment of a substatement behind a controlling expression, in the scope of the whole
-- statement (C99 6.8.4, 3; 6.8.5, 5)
abbrev pub behind : Expr → Env → Env
behind e env = extend (enter env) (expr_adds e (enter env))

-- the environment behind a substatement, which is a scope (C99 6.8.4, 3; 6.8.5, 5)
abbrev pub behind_inner : Stmt → Env → Env
behind_inner inner env = extend env (past_scope (stmt_adds inner (enter env)))

-- the value of a return is converted to the result of its function (C99 6.8.6.4, 3)
abbrev pub to_result : Env → Option Ty → Env
to_result env None = env
to_result env (Some result) = converted_to env result

-- the parts of a statement
abbrev pub statement_parts : Around → Env → StmtForm-F BlockItem StmtForm Stmt → List Placed
statement_parts around env (StmtForm-F.Label name inner) = at env (AStatement around inner) ∷ []
statement_parts around env (StmtForm-F.Case value inner) =
    at env (AnExpression value) ∷
    at (extend env (expr_adds value env))
    (AStatement (behind_cases around (expr_constant value env ∷ []) false) inner) ∷ []
statement_parts around env (StmtForm-F.Default inner) =
    at env (AStatement (behind_cases around [] true) inner) ∷ []
statement_parts around env (StmtForm-F.Block items) = items_in_turn around (enter env) items
statement_parts around env (StmtForm-F.Do e) = perhaps env AnExpression e
statement_parts around env (StmtForm-F.If e taken other) =
    at (enter env) (AnExpression e) ∷ at (enter (behind e env)) (AStatement around taken) ∷
    perhaps (enter (behind_inner taken (behind e env)))
    (AStatement (around_behind around (statement taken (enter (behind e env))))) other
statement_parts around env (StmtForm-F.Switch e inner) =
    at (enter env) (AnExpression e) ∷
    at (enter (behind e env)) (AStatement (in_body_of_switch around (switch_kind e (enter env))) inner) ∷ []
statement_parts around env (StmtForm-F.While e inner) =
    at (enter env) (AnExpression e) ∷
    at (enter (behind e env)) (AStatement (in_body_of_loop around) inner) ∷ []
statement_parts around env (StmtForm-F.Until inner e) =
    at (enter (enter env)) (AStatement (in_body_of_loop around) inner) ∷
    at (behind_inner inner (enter env)) (AnExpression e) ∷ []
statement_parts around env (StmtForm-F.For start condition step inner) =
    for_parts around (enter env) start condition step inner
statement_parts around env (StmtForm-F.Goto name) = []
statement_parts around env StmtForm-F.Continue = []
statement_parts around env StmtForm-F.Break = []
statement_parts around env (StmtForm-F.Return e) = perhaps (to_result env env.result) AnExpression e

-- ---- declarators (C99 6.7.5)

-- a declarator inside another one, with the type that this one makes for it
abbrev pub inner_left : Left → Option Ty → Left
inner_left left t = record left { type = within_bounds left.behind t; is_whole = false }

-- a declarator that begins in this environment, and what is given to it
abbrev pub span_at : Env → Left → Span
span_at env left = record { env = env; behind = left.behind; may_be_absent = left.may_be_absent }

abbrev pub inner_part : Env → Left → Option Declarator → List Placed
inner_part env left None = []
inner_part env left (Some d) = at env (ADeclarator left d) ∷ []

abbrev pub inner_adds : Option Declarator → Env → Additions
inner_adds None env = nothing
inner_adds (Some d) env = (declarator_found d).additions env

-- the parameters of a list stand in a scope of their own, each behind those before it (C99 6.2.1, 4)
abbrev pub parameters_in_turn : Bool → Env → List Parameter → List Placed
parameters_in_turn lone env [] = []
parameters_in_turn lone env (p ∷ ps) =
    at env (AParameter lone p) ∷ parameters_in_turn lone (extend env (parameter_found p env).additions) ps

-- whether a list is of one parameter and no dots
abbrev pub is_lone : List Parameter → Bool → Bool
is_lone [] dots = false
is_lone (p ∷ []) dots = not dots
is_lone (p ∷ q ∷ ps) dots = false

-- the types of the parameters of a list
abbrev pub tellers : List Parameter → List ParameterTeller
tellers ps = map (λ p. parameter_found p) ps

abbrev pub size_in : Option Expr → Env → Size
size_in None env = None
size_in (Some e) env = Some (expr_constant e env)

-- the size stands in the environment behind the declarator inside
abbrev pub array_left : Env → Env → Left → Option Expr → Left
array_left env behind left size =
    inner_left left (array_by (span_at env left) (size_in size behind) left.type)

abbrev pub function_left : Env → Left → List Parameter → Bool → Left
function_left env left ps dots =
    inner_left left (function_by dots (parameters_of (tellers ps) dots (enter env)).types left.type)

-- the parts of a declarator, and the type that it makes for the one inside
abbrev pub declarator_parts : Env → Left →
    DeclaratorForm-F DeclaratorForm ExprForm MemberDeclarator Specifier Declarator Expr Item Member Parameter
    TypeName → List Placed
declarator_parts env left (DeclaratorForm-F.Star qualifiers inner) =
    inner_part env (inner_left left (pointer_made left.type)) inner
declarator_parts env left (DeclaratorForm-F.Named name) = []
declarator_parts env left (DeclaratorForm-F.Group inner) =
    inner_part env (record left { is_whole = false }) (Some inner)
declarator_parts env left (DeclaratorForm-F.ArrayOf inner size) =
    let behind = extend env (inner_adds inner env) in
    inner_part env (array_left env behind left size) inner ++ perhaps behind AnExpression size
declarator_parts env left (DeclaratorForm-F.FunctionOf inner ps dots) =
    let behind = extend env (inner_adds inner env) in
    inner_part env (function_left behind left ps dots) inner ++
    parameters_in_turn (is_lone ps dots) (enter behind) ps

-- ---- specifiers (C99 6.7.2)

abbrev pub members_parts : Env → List Field → List Member → List Placed
members_parts env before [] = []
members_parts env before (m ∷ ms) =
    let told = member_found m env before in
    at env (AMember before m) ∷ members_parts (extend env told.additions) (before ++ told.fields) ms

abbrev pub items_parts : Env → Option ℤ → List Item → List Placed
items_parts env before [] = []
items_parts env before (i ∷ is) =
    let told = item_found i env before in
    at env (AnItem before i) ∷ items_parts (extend env told.additions) told.value is

abbrev pub specifier_parts : Env →
    Specifier-F DeclaratorForm ExprForm MemberDeclarator Specifier Declarator Expr Item Member Parameter
    TypeName → List Placed
specifier_parts env (Specifier-F.Storage word) = []
specifier_parts env Specifier-F.Inline = []
specifier_parts env (Specifier-F.Qualifier word) = []
specifier_parts env (Specifier-F.Type word) = []
specifier_parts env (Specifier-F.Struct tag members) =
    members_parts (extend env (struct_begins env tag)) [] members
specifier_parts env (Specifier-F.StructTag tag) = []
specifier_parts env (Specifier-F.Enum tag items) = items_parts env before_first items
specifier_parts env (Specifier-F.EnumTag tag) = []
specifier_parts env (Specifier-F.Typedef name) = []

abbrev pub specifiers_parts : Bool → Env → List Specifier → List Placed
specifiers_parts alone env [] = []
specifiers_parts alone env (s ∷ ss) =
    specifier_parts env (out-Specifier s) ++
    specifiers_parts alone (extend env (specifiers_found (s ∷ []) env alone).additions) ss
