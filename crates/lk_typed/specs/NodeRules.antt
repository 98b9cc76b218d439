-- The codes that hold at each node of a source, by the rules of its kind: where its parts have
-- types; and where a node stands.
use Rattle.std.specs.Prelude.{ℕ, ◌&&◌, ◌||◌, ◌++◌, Bool, true, false, not, Option, Some, None, List, [], ◌∷◌, is_some, if◌then◌else◌, ℤ, pos}
use Rattle.lk_base.specs.declared.spot.Spot.{Spot}
use Rattle.lk_tree.specs.declared.declaration.Init.{Init, out-Init}
use Rattle.lk_tree.specs.declared.declaration.Init.TheOpen.{Init-F}
use Rattle.lk_tree.specs.declared.declaration.Entry.{Entry}
use Rattle.lk_tree.specs.declared.declaration.InitList.{InitList, out-InitList}
use Rattle.lk_tree.specs.declared.expression.DeclaratorForm.TheOpen.{DeclaratorForm-F}
use Rattle.lk_tree.specs.declared.expression.DeclaratorForm.{DeclaratorForm, out-DeclaratorForm}
use Rattle.lk_tree.specs.declared.expression.Declarator.{Declarator}
use Rattle.lk_tree.specs.declared.expression.Expr.{Expr}
use Rattle.lk_tree.specs.declared.expression.ExprForm.{ExprForm}
use Rattle.lk_tree.specs.declared.expression.Item.{Item, out-Item}
use Rattle.lk_tree.specs.declared.expression.Member.{Member}
use Rattle.lk_tree.specs.declared.expression.MemberDeclarator.{MemberDeclarator}
use Rattle.lk_tree.specs.declared.expression.Parameter.{Parameter, out-Parameter}
use Rattle.lk_tree.specs.declared.expression.Specifier.{Specifier}
use Rattle.lk_tree.specs.declared.expression.TypeName.{TypeName, out-TypeName}
use Rattle.lk_tree.specs.declared.statement.BlockItem.TheOpen.{StmtForm-F}
use Rattle.lk_tree.specs.declared.statement.BlockItem.{BlockItem}
use Rattle.lk_tree.specs.declared.statement.Decl.{Decl}
use Rattle.lk_tree.specs.declared.statement.Decl.TheVariants as decl
use Rattle.lk_tree.specs.declared.statement.ForFirst.{ForFirst}
use Rattle.lk_tree.specs.declared.statement.ForFirst.TheVariants as first
use Rattle.lk_tree.specs.declared.statement.Stmt.{Stmt}
use Rattle.lk_tree.specs.declared.statement.StmtForm.{StmtForm, out-StmtForm}
use Rattle.lk_base.specs.declared.code.Code.TheVariants.{Incomplete, LargeType}
use Rattle.lk_typed.specs.DeclarationRules.{Holder, InDefinition, InType, definition_rules, named_rules, type_in}
use Rattle.lk_typed.specs.Declarations.{declared_as}
use Rattle.lk_typed.specs.DeclaratorRules.{adjusted, array_rules, function_rules, of_type, parameter_rules, pointer_rules, unless}
use Rattle.lk_typed.specs.Env.{Env, Name, Declared, Meaning, AnObject, AnEnumerator, AFaultyName, enter, extend}
use Rattle.lk_typed.specs.declared.entity.Linkage.TheVariants as linkage
use Rattle.lk_typed.specs.declared.entity.Defines.TheVariants as defines
use Rattle.lk_typed.specs.Layers.{has_name, type_made}
use Rattle.lk_typed.specs.Faults.{Breach, breach}
use Rattle.lk_typed.specs.HolderRules.{all_specifier_rules, declaration_rules, item_rules, member_node_rules}
use Rattle.lk_typed.specs.InitialiserRules.{Object, given_rules}
use Rattle.lk_typed.specs.Initialisers.{as_initialiser, initialiser_rules}
use Rattle.lk_typed.specs.MemberRules.{is_over, large_struct_rules, member_rules}
use Rattle.lk_typed.specs.NodeParts.{parts}
use Rattle.lk_typed.specs.Nodes.{Node, AnExternal, ADeclaration, ADefinition, AMember, AnItem, AParameter, ATypeName, ADeclarator, AnInitialiser, AStatement, AnExpression, Placed, Left, NameUse, Declares, IsMember, IsParameter, Unnamed}
use Rattle.lk_typed.specs.Parts.{added_by, behind_inner, first_adds, inner_adds, size_in, span_at}
use Rattle.lk_typed.specs.Redeclared.{name_rules}
use Rattle.lk_typed.specs.Stands.{Mark}
use Rattle.lk_typed.specs.StatementRules.{Around, Returned, Nothing, Converted, break_rules, case_rules, condition_rules, continue_rules, default_rules, dropped_rules, goto_rules, label_rules, return_rules, switch_rules}
use Rattle.lk_typed.specs.Told.{DeclaratorTold, Span, some_type, with_optional}
use Rattle.lk_typed.specs.Ty.{Ty, is_void}
use Rattle.lk_typed.specs.Expressions.{declarator_found, expr_breaches, expr_constant, expr_conversion, expr_type, expr_word, has_expr_type, item_found, parameter_found, specifiers_found, type_found}

-- ---- declared names, with the type on the left of the name, which is theirs

-- 25 of a parameter of type void
abbrev pub void_rules : Ty → List Breach
void_rules t = if is_void t then breach Incomplete ∷ [] else []

abbrev pub parameter_meaning : Option Ty → Meaning
parameter_meaning None = AFaultyName
parameter_meaning (Some t) = AnObject t false

-- a name without linkage
abbrev pub plain_name : Name → Meaning → Declared
plain_name name meaning =
    record { name = name; meaning = meaning; linkage = linkage.None; defines = defines.Nothing; ordinal = 0 }

-- the rules of a name, by what it becomes, in the environment where its scope begins;
-- none asks which node declares it
abbrev pub name_use_rules : Env → Option Ty → Name → NameUse → List Breach
name_use_rules env t name (Declares scope ss given n at_end) =
    name_rules env (declared_as env scope ss given None name 0 t) ++
    of_type t (λ t. named_rules env at_end scope ss name t given) ++ given_rules n
name_use_rules env t name (IsMember before) = of_type t (λ t. member_rules env before name t)
name_use_rules env t name IsParameter =
    name_rules env (plain_name name (parameter_meaning t)) ++ of_type t void_rules
name_use_rules env t name Unnamed = []

-- ---- declarators

abbrev pub form_rules : Env → Left →
    DeclaratorForm-F DeclaratorForm ExprForm MemberDeclarator Specifier Declarator Expr Item Member Parameter
    TypeName → List Breach
form_rules env left (DeclaratorForm-F.Star qualifiers inner) = pointer_rules left.type
form_rules env left (DeclaratorForm-F.Named name) = name_use_rules left.behind left.type name left.use_of_name
form_rules env left (DeclaratorForm-F.Group inner) = []
form_rules env left (DeclaratorForm-F.ArrayOf inner size) =
    array_rules env left.may_be_absent left.type (size_in size (extend env (inner_adds inner env)))
form_rules env left (DeclaratorForm-F.FunctionOf inner ps dots) = function_rules left.type

-- 32 stands at the whole declarator: of a type that it makes, and of the struct whose member it declares
abbrev pub struct_bound_rules : Env → NameUse → Ty → List Breach
struct_bound_rules env (Declares scope ss given n at_end) t = []
struct_bound_rules env (IsMember before) t = large_struct_rules env before t
struct_bound_rules env IsParameter t = []
struct_bound_rules env Unnamed t = []

abbrev pub bound_rules : Span → Left → DeclaratorTold → List Breach
bound_rules span left d =
    unless (not (d.is_large span left.type)) LargeType ++
    of_type (d.type span left.type) (struct_bound_rules left.behind left.use_of_name)

abbrev pub whole_rules : Env → Left → Declarator → List Breach
whole_rules env left d =
    if left.is_whole then bound_rules (span_at env left) left (declarator_found d) else []

-- ---- statements

abbrev pub optional_rules : Env → (Option Ty → List Breach) → Option Expr → List Breach
optional_rules env rule None = []
optional_rules env rule (Some e) = rule (expr_type e env)

abbrev pub first_rules : Env → ForFirst → List Breach
first_rules env (first.Expr e) = optional_rules env dropped_rules e
first_rules env (first.Declare node) = []

-- the rules of a for in the scope round its parts: its condition is one, its other
-- parts are dropped (C99 6.8.5.3)
abbrev pub for_rules : Env → ForFirst → Option Expr → Option Expr → List Breach
for_rules env start condition step =
    let behind_first = extend env (first_adds start env) in
    let behind_condition = extend behind_first (added_by condition behind_first) in
    first_rules env start ++ optional_rules behind_first condition_rules condition ++
    optional_rules behind_condition dropped_rules step

abbrev pub converted_rules : Env → Expr → Option Ty → List Breach
converted_rules env e None = []
converted_rules env e (Some result) = expr_conversion e env result

abbrev pub returned : Env → Option Expr → Returned
returned env None = Nothing
returned env (Some e) = Converted (converted_rules env e env.result)

-- each expression is asked where it stands
abbrev pub stmt_rules : Around → Env → ℕ → StmtForm-F BlockItem StmtForm Stmt → List Breach
stmt_rules around env n (StmtForm-F.Label name inner) = label_rules around name n
stmt_rules around env n (StmtForm-F.Case value inner) = case_rules around (expr_constant value env)
stmt_rules around env n (StmtForm-F.Default inner) = default_rules around
stmt_rules around env n (StmtForm-F.Block items) = []
stmt_rules around env n (StmtForm-F.Do e) = optional_rules env dropped_rules e
stmt_rules around env n (StmtForm-F.If e taken other) = condition_rules (expr_type e (enter env))
stmt_rules around env n (StmtForm-F.Switch e inner) = switch_rules (expr_type e (enter env))
stmt_rules around env n (StmtForm-F.While e inner) = condition_rules (expr_type e (enter env))
stmt_rules around env n (StmtForm-F.Until inner e) =
    condition_rules (expr_type e (behind_inner inner (enter env)))
stmt_rules around env n (StmtForm-F.For start condition step inner) =
    for_rules (enter env) start condition step
stmt_rules around env n (StmtForm-F.Goto name) = goto_rules around name
stmt_rules around env n StmtForm-F.Continue = continue_rules around
stmt_rules around env n StmtForm-F.Break = break_rules around
stmt_rules around env n (StmtForm-F.Return e) = return_rules env.result (returned env e)

-- ---- all nodes

-- the type of a declarator behind its specifiers
abbrev pub type_behind : Env → Holder → Bool → List Specifier → Option Declarator → Option Ty
type_behind env holder may_be_absent ss None = type_in holder (specifiers_found ss env false)
type_behind env holder may_be_absent ss (Some d) =
    let told = specifiers_found ss env false in
    type_made (extend env told.additions) may_be_absent (type_in holder told) (declarator_found d)

abbrev pub is_named : Option Declarator → Bool
is_named None = false
is_named (Some d) = has_name (declarator_found d).name

-- the rules of a parameter: `(void)` breaks none (C99 6.7.5.3, 10)
abbrev pub parameter_node_rules : Bool → Bool → Option Ty → List Breach
parameter_node_rules named true t = []
parameter_node_rules named false t = parameter_rules named t

-- the environment behind specifiers and a declarator
abbrev pub env_behind : Env → List Specifier → Option Declarator → Env
env_behind env ss None = extend env (specifiers_found ss env false).additions
env_behind env ss (Some d) = let after = extend env (specifiers_found ss env false).additions in
    extend after ((declarator_found d).additions after)

-- 32 of a parameter: its type is adjusted, and may be over a bound by that
abbrev pub adjusted_rules : Env → Option Ty → List Breach
adjusted_rules env t = unless (not (is_over env (some_type adjusted t))) LargeType

-- an enumerator as a name, whatever its value
abbrev pub item_meaning : Option ℤ → Meaning
item_meaning value = AnEnumerator (with_optional (pos 0) (λ z. z) value)

-- the codes of a node in its environment, where its parts have types
abbrev pub rules_of : Env → Node → List Breach
rules_of env (AnExternal d) = []
rules_of env (ADeclaration scope node) = declaration_rules env node
rules_of env (ADefinition node) =
    all_specifier_rules InDefinition false env node.specifiers ++
    definition_rules (type_behind env InDefinition false node.specifiers (Some node.declarator))
rules_of env (AMember before m) = member_node_rules env m
rules_of env (AnItem before i) =
    item_rules env before (out-Item i).value ++
    name_rules (extend env (added_by (out-Item i).value env))
    (plain_name (out-Item i).name (item_meaning (item_found i env before).value))
rules_of env (AParameter lone p) =
    all_specifier_rules InType false env (out-Parameter p).specifiers ++
    parameter_node_rules (is_named (out-Parameter p).declarator)
    (lone && (parameter_found p env).is_bare_void)
    (type_behind env InType true (out-Parameter p).specifiers (out-Parameter p).declarator) ++
    adjusted_rules (env_behind env (out-Parameter p).specifiers (out-Parameter p).declarator)
    (type_behind env InType true (out-Parameter p).specifiers (out-Parameter p).declarator)
rules_of env (ATypeName n) = all_specifier_rules InType false env (out-TypeName n).specifiers
rules_of env (ADeclarator left d) = form_rules env left (out-DeclaratorForm d.form) ++ whole_rules env left d
rules_of env (AnInitialiser object init) = initialiser_rules object env init
rules_of env (AStatement around s) = stmt_rules around env s.ordinal (out-StmtForm s.form)
rules_of env (AnExpression e) = expr_breaches e env

-- ---- types of parts: an expression, a type name and an initialiser that is an expression have one where no fault holds at them; all else counts as having one

abbrev pub is_none_broken : List Breach → Bool
is_none_broken [] = true
is_none_broken (breach ∷ others) = false

abbrev pub is_list : Init-F Init Entry InitList → Bool
is_list (Init-F.Expr e) = false
is_list (Init-F.List entries) = true

abbrev pub has_initialiser_type : Option Object → Env → Init-F Init Entry InitList → Bool
has_initialiser_type object env (Init-F.Expr e) =
    is_some (expr_word e env) || has_expr_type e (as_initialiser object env)
has_initialiser_type object env (Init-F.List entries) = true

abbrev pub has_type : Env → Node → Bool
has_type env (AnExternal d) = true
has_type env (ADeclaration scope node) = true
has_type env (ADefinition node) = true
has_type env (AMember before m) = true
has_type env (AnItem before i) = true
has_type env (AParameter lone p) = true
has_type env (ATypeName n) = is_some (type_found n env).type
has_type env (ADeclarator left d) = true
has_type env (AnInitialiser object init) =
    has_initialiser_type object env (out-Init init)
    && (is_list (out-Init init) || is_none_broken (initialiser_rules object env init))
has_type env (AStatement around s) = true
has_type env (AnExpression e) = has_expr_type e env

abbrev pub are_typed : List Placed → Bool
are_typed [] = true
are_typed (part ∷ others) = has_type part.env part.node && are_typed others

-- of a declaration an initialiser without a type is asked for a fault that stands in it
abbrev pub is_declaration : Node → Bool
is_declaration (AnExternal d) = false
is_declaration (ADeclaration scope node) = true
is_declaration (ADefinition node) = false
is_declaration (AMember before m) = false
is_declaration (AnItem before i) = false
is_declaration (AParameter lone p) = false
is_declaration (ATypeName n) = false
is_declaration (ADeclarator left d) = false
is_declaration (AnInitialiser object init) = false
is_declaration (AStatement around s) = false
is_declaration (AnExpression e) = false

-- the codes that hold at a node in its environment
abbrev pub breaches : Env → Env → Node → List Breach
breaches at_end env node =
    if is_declaration node || are_typed (parts at_end env node) then rules_of env node else []

-- ---- what hides the codes of a declaration: a fault in a part without a type

abbrev pub those_without_type : List Placed → List Placed
those_without_type [] = []
those_without_type (part ∷ others) =
    if has_type part.env part.node then those_without_type others else part ∷ those_without_type others

abbrev pub hiding : Env → Env → Node → List Placed
hiding at_end env node = if is_declaration node then those_without_type (parts at_end env node) else []

-- ---- where a node stands

abbrev pub mark : Spot → ℕ → Mark
mark spot n = record { spot = spot; ordinal = n }

abbrev pub decl_mark : Decl → Mark
decl_mark (decl.Function node) = mark node.spot node.ordinal
decl_mark (decl.Declare node) = mark node.spot node.ordinal
decl_mark (decl.Empty node) = mark node.spot node.ordinal

abbrev pub init_mark : Init-F Init Entry InitList → Mark
init_mark (Init-F.Expr e) = mark e.spot e.ordinal
init_mark (Init-F.List entries) = mark (out-InitList entries).spot (out-InitList entries).ordinal

abbrev pub mark_of : Node → Mark
mark_of (AnExternal d) = decl_mark d
mark_of (ADeclaration scope node) = mark node.spot node.ordinal
mark_of (ADefinition node) = mark node.spot node.ordinal
mark_of (AMember before m) = mark m.spot m.ordinal
mark_of (AnItem before i) = mark (out-Item i).spot (out-Item i).ordinal
mark_of (AParameter lone p) = mark (out-Parameter p).spot (out-Parameter p).ordinal
mark_of (ATypeName n) = mark (out-TypeName n).spot (out-TypeName n).ordinal
mark_of (ADeclarator left d) = mark d.spot d.ordinal
mark_of (AnInitialiser object init) = init_mark (out-Init init)
mark_of (AStatement around s) = mark s.spot s.ordinal
mark_of (AnExpression e) = mark e.spot e.ordinal
