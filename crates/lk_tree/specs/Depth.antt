-- How deep a tree is: each production is a node, one deeper than the deepest node directly inside it.
-- Specifiers, parameters, designators, entries and declarators with their initialisers are no nodes of their
-- own; members, items and type names are.
use Rattle.std.specs.Prelude.{ℕ, ◌+◌, max, List, [], ◌∷◌, Option, Some, None}
use Rattle.lk_tree.specs.declared.expression.DeclaratorForm.TheOpen.{DeclaratorForm-F, ExprForm-F, MemberDeclarator-F, Specifier-F, Declarator-F, Expr-F, Item-F, Member-F, Parameter-F, TypeName-F}
use Rattle.lk_tree.specs.declared.expression.DeclaratorForm.TheFolds.{fold-Specifier, fold-Declarator, fold-Expr}
use Rattle.lk_tree.specs.declared.expression.Specifier.{Specifier}
use Rattle.lk_tree.specs.declared.expression.Declarator.{Declarator}
use Rattle.lk_tree.specs.declared.expression.Expr.{Expr}
use Rattle.lk_tree.specs.declared.declaration.Init.TheOpen.{Init-F, Entry-F, InitList-F}
use Rattle.lk_tree.specs.declared.declaration.Init.TheFolds.{fold-Init}
use Rattle.lk_tree.specs.declared.declaration.Init.{Init}
use Rattle.lk_tree.specs.declared.declaration.Declare.{Declare}
use Rattle.lk_tree.specs.declared.declaration.InitDeclarator.{InitDeclarator}
use Rattle.lk_tree.specs.declared.declaration.Designator.{Designator}
use Rattle.lk_tree.specs.declared.declaration.Designator.TheVariants as designator
use Rattle.lk_tree.specs.declared.statement.BlockItem.TheOpen.{BlockItem-F, StmtForm-F, Stmt-F}
use Rattle.lk_tree.specs.declared.statement.BlockItem.TheFolds.{fold-Stmt}
use Rattle.lk_tree.specs.declared.statement.Stmt.{Stmt}
use Rattle.lk_tree.specs.declared.statement.ForFirst.{ForFirst}
use Rattle.lk_tree.specs.declared.statement.ForFirst.TheVariants as first
use Rattle.lk_tree.specs.declared.statement.Decl.{Decl}
use Rattle.lk_tree.specs.declared.statement.Decl.TheVariants as decl
use Rattle.lk_tree.specs.declared.statement.Unit as unit

abbrev pub deepest : List ℕ → ℕ
deepest [] = 0
deepest (d ∷ ds) = max d (deepest ds)

abbrev pub of_part : Option ℕ → ℕ
of_part None = 0
of_part (Some d) = d

abbrev pub deepest_of : {A : Type 0} → (A → ℕ) → List A → ℕ
deepest_of depth [] = 0
deepest_of depth (x ∷ xs) = max (depth x) (deepest_of depth xs)

abbrev pub of_optional : {A : Type 0} → (A → ℕ) → Option A → ℕ
of_optional depth None = 0
of_optional depth (Some x) = depth x

-- ---- expressions and declarators: the depth of what is inside a form, and of a node

abbrev pub in_declarator : DeclaratorForm-F ℕ ℕ ℕ ℕ ℕ ℕ ℕ ℕ ℕ ℕ → ℕ
in_declarator (DeclaratorForm-F.Star qualifiers inner) = of_part inner
in_declarator (DeclaratorForm-F.Named name) = 0
in_declarator (DeclaratorForm-F.Group inner) = inner
in_declarator (DeclaratorForm-F.ArrayOf inner size) = max (of_part inner) (of_part size)
in_declarator (DeclaratorForm-F.FunctionOf inner parameters dots) = max (of_part inner) (deepest parameters)

abbrev pub in_expr : ExprForm-F ℕ ℕ ℕ ℕ ℕ ℕ ℕ ℕ ℕ ℕ → ℕ
in_expr (ExprForm-F.Comma left right) = max left right
in_expr (ExprForm-F.Assign op left right) = max left right
in_expr (ExprForm-F.Choice condition taken other) = max condition (max taken other)
in_expr (ExprForm-F.Binary op left right) = max left right
in_expr (ExprForm-F.Cast name operand) = max name operand
in_expr (ExprForm-F.Pre op operand) = operand
in_expr (ExprForm-F.Prefix op operand) = operand
in_expr (ExprForm-F.SizeofExpr operand) = operand
in_expr (ExprForm-F.SizeofType name) = name
in_expr (ExprForm-F.Index array inner) = max array inner
in_expr (ExprForm-F.Call function arguments) = max function (deepest arguments)
in_expr (ExprForm-F.Member object name) = object
in_expr (ExprForm-F.Arrow pointer name) = pointer
in_expr (ExprForm-F.Post op operand) = operand
in_expr (ExprForm-F.Word name) = 0
in_expr (ExprForm-F.Number kind value) = 0
in_expr (ExprForm-F.Char value) = 0
in_expr (ExprForm-F.Text bytes) = 0
in_expr (ExprForm-F.Paren inner) = inner

abbrev pub of_member_declarator : MemberDeclarator-F ℕ ℕ ℕ ℕ ℕ ℕ ℕ ℕ ℕ ℕ → ℕ
of_member_declarator (MemberDeclarator-F.Plain inner) = inner
of_member_declarator (MemberDeclarator-F.Field inner width) = max inner width
of_member_declarator (MemberDeclarator-F.Unnamed width) = width

abbrev pub of_specifier : Specifier-F ℕ ℕ ℕ ℕ ℕ ℕ ℕ ℕ ℕ ℕ → ℕ
of_specifier (Specifier-F.Storage word) = 0
of_specifier Specifier-F.Inline = 0
of_specifier (Specifier-F.Qualifier word) = 0
of_specifier (Specifier-F.Type word) = 0
of_specifier (Specifier-F.Struct tag members) = deepest members
of_specifier (Specifier-F.StructTag tag) = 0
of_specifier (Specifier-F.Enum tag items) = deepest items
of_specifier (Specifier-F.EnumTag tag) = 0
of_specifier (Specifier-F.Typedef name) = 0

abbrev pub of_declarator : Declarator-F ℕ ℕ ℕ ℕ ℕ ℕ ℕ ℕ ℕ ℕ → ℕ
of_declarator node = 1 + node.form

abbrev pub of_expr : Expr-F ℕ ℕ ℕ ℕ ℕ ℕ ℕ ℕ ℕ ℕ → ℕ
of_expr node = 1 + node.form

abbrev pub of_item : Item-F ℕ ℕ ℕ ℕ ℕ ℕ ℕ ℕ ℕ ℕ → ℕ
of_item node = 1 + of_part node.value

abbrev pub of_member : Member-F ℕ ℕ ℕ ℕ ℕ ℕ ℕ ℕ ℕ ℕ → ℕ
of_member node = 1 + max (deepest node.specifiers) (deepest node.declarators)

abbrev pub of_parameter : Parameter-F ℕ ℕ ℕ ℕ ℕ ℕ ℕ ℕ ℕ ℕ → ℕ
of_parameter node = max (deepest node.specifiers) (of_part node.declarator)

abbrev pub of_type_name : TypeName-F ℕ ℕ ℕ ℕ ℕ ℕ ℕ ℕ ℕ ℕ → ℕ
of_type_name node = 1 + max (deepest node.specifiers) (of_part node.declarator)

unfoldable pub expr_depth : Expr → ℕ
expr_depth =
    fold-Expr ℕ ℕ ℕ ℕ ℕ ℕ ℕ ℕ ℕ ℕ in_declarator in_expr of_member_declarator of_specifier of_declarator
    of_expr of_item of_member of_parameter of_type_name

unfoldable pub declarator_depth : Declarator → ℕ
declarator_depth =
    fold-Declarator ℕ ℕ ℕ ℕ ℕ ℕ ℕ ℕ ℕ ℕ in_declarator in_expr of_member_declarator of_specifier of_declarator
    of_expr of_item of_member of_parameter of_type_name

unfoldable pub specifier_depth : Specifier → ℕ
specifier_depth =
    fold-Specifier ℕ ℕ ℕ ℕ ℕ ℕ ℕ ℕ ℕ ℕ in_declarator in_expr of_member_declarator of_specifier of_declarator
    of_expr of_item of_member of_parameter of_type_name

-- ---- initialisers and declarations

abbrev pub designator_depth : Designator → ℕ
designator_depth (designator.Member name) = 0
designator_depth (designator.Index index) = expr_depth index

abbrev pub of_init : Init-F ℕ ℕ ℕ → ℕ
of_init (Init-F.Expr value) = expr_depth value
of_init (Init-F.List entries) = entries

abbrev pub of_entry : Entry-F ℕ ℕ ℕ → ℕ
of_entry entry = max (deepest_of designator_depth entry.designators) entry.init

abbrev pub of_list : InitList-F ℕ ℕ ℕ → ℕ
of_list node = 1 + deepest node.entries

unfoldable pub init_depth : Init → ℕ
init_depth = fold-Init ℕ ℕ ℕ of_init of_entry of_list

abbrev pub init_declarator_depth : InitDeclarator → ℕ
init_declarator_depth d = max (declarator_depth d.declarator) (of_optional init_depth d.init)

abbrev pub declare_depth : Declare → ℕ
declare_depth node =
    1 + max (deepest_of specifier_depth node.specifiers) (deepest_of init_declarator_depth node.declarators)

-- ---- statements and units

abbrev pub first_depth : ForFirst → ℕ
first_depth (first.Expr value) = of_optional expr_depth value
first_depth (first.Declare node) = declare_depth node

abbrev pub of_block_item : BlockItem-F ℕ ℕ ℕ → ℕ
of_block_item (BlockItem-F.Declare node) = declare_depth node
of_block_item (BlockItem-F.Stmt inner) = inner

abbrev pub in_stmt : StmtForm-F ℕ ℕ ℕ → ℕ
in_stmt (StmtForm-F.Label name inner) = inner
in_stmt (StmtForm-F.Case value inner) = max (expr_depth value) inner
in_stmt (StmtForm-F.Default inner) = inner
in_stmt (StmtForm-F.Block items) = deepest items
in_stmt (StmtForm-F.Do value) = of_optional expr_depth value
in_stmt (StmtForm-F.If value taken other) = max (expr_depth value) (max taken (of_part other))
in_stmt (StmtForm-F.Switch value inner) = max (expr_depth value) inner
in_stmt (StmtForm-F.While value inner) = max (expr_depth value) inner
in_stmt (StmtForm-F.Until inner value) = max inner (expr_depth value)
in_stmt (StmtForm-F.For start value step inner) =
    max (first_depth start) (max (of_optional expr_depth value) (max (of_optional expr_depth step) inner))
in_stmt (StmtForm-F.Goto name) = 0
in_stmt StmtForm-F.Continue = 0
in_stmt StmtForm-F.Break = 0
in_stmt (StmtForm-F.Return value) = of_optional expr_depth value

abbrev pub of_stmt : Stmt-F ℕ ℕ ℕ → ℕ
of_stmt node = 1 + node.form

unfoldable pub stmt_depth : Stmt → ℕ
stmt_depth = fold-Stmt ℕ ℕ ℕ of_block_item in_stmt of_stmt

abbrev pub decl_depth : Decl → ℕ
decl_depth (decl.Function node) =
    1 + max (deepest_of specifier_depth node.specifiers)
    (max (declarator_depth node.declarator) (stmt_depth node.body))
decl_depth (decl.Declare node) = declare_depth node
decl_depth (decl.Empty node) = 1

abbrev pub unit_depth : unit.Unit → ℕ
unit_depth tree = deepest_of decl_depth tree.externals
