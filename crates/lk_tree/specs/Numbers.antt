-- The ordinals of a tree: a walk numbers each node before the nodes inside it, and those in the order of the
-- text. Members, items, type names and parameters are numbered too.
use Rattle.std.specs.Prelude.{ℕ, ◌+◌, List, [], ◌∷◌, Option, Some, None}
use Rattle.lk_tree.specs.declared.expression.DeclaratorForm.TheOpen.{DeclaratorForm-F, ExprForm-F, MemberDeclarator-F, Specifier-F, Declarator-F, Expr-F, Item-F, Member-F, Parameter-F, TypeName-F}
use Rattle.lk_tree.specs.declared.expression.DeclaratorForm.TheFolds.{fold-Specifier, fold-Declarator, fold-Expr}
use Rattle.lk_tree.specs.declared.expression.DeclaratorForm.{DeclaratorForm}
use Rattle.lk_tree.specs.declared.expression.DeclaratorForm.TheVariants as d
use Rattle.lk_tree.specs.declared.expression.ExprForm.{ExprForm}
use Rattle.lk_tree.specs.declared.expression.ExprForm.TheVariants as e
use Rattle.lk_tree.specs.declared.expression.MemberDeclarator.{MemberDeclarator}
use Rattle.lk_tree.specs.declared.expression.MemberDeclarator.TheVariants as m
use Rattle.lk_tree.specs.declared.expression.Specifier.{Specifier}
use Rattle.lk_tree.specs.declared.expression.Specifier.TheVariants as s
use Rattle.lk_tree.specs.declared.expression.Declarator.{Declarator}
use Rattle.lk_tree.specs.declared.expression.Expr.{Expr}
use Rattle.lk_tree.specs.declared.expression.Item.{Item, roll-Item}
use Rattle.lk_tree.specs.declared.expression.Member.{Member}
use Rattle.lk_tree.specs.declared.expression.Parameter.{Parameter, roll-Parameter}
use Rattle.lk_tree.specs.declared.expression.TypeName.{TypeName, roll-TypeName}
use Rattle.lk_tree.specs.declared.declaration.Init.TheOpen.{Init-F, Entry-F, InitList-F}
use Rattle.lk_tree.specs.declared.declaration.Init.TheFolds.{fold-Init}
use Rattle.lk_tree.specs.declared.declaration.Init.{Init}
use Rattle.lk_tree.specs.declared.declaration.Init.TheVariants as init
use Rattle.lk_tree.specs.declared.declaration.InitList.{InitList, roll-InitList}
use Rattle.lk_tree.specs.declared.declaration.Entry.{Entry}
use Rattle.lk_tree.specs.declared.declaration.Declare.{Declare}
use Rattle.lk_tree.specs.declared.declaration.InitDeclarator.{InitDeclarator}
use Rattle.lk_tree.specs.declared.declaration.Designator.{Designator}
use Rattle.lk_tree.specs.declared.declaration.Designator.TheVariants as designator
use Rattle.lk_tree.specs.declared.statement.BlockItem.TheOpen.{BlockItem-F, StmtForm-F, Stmt-F}
use Rattle.lk_tree.specs.declared.statement.BlockItem.TheFolds.{fold-Stmt}
use Rattle.lk_tree.specs.declared.statement.BlockItem.{BlockItem}
use Rattle.lk_tree.specs.declared.statement.BlockItem.TheVariants as item
use Rattle.lk_tree.specs.declared.statement.StmtForm.{StmtForm}
use Rattle.lk_tree.specs.declared.statement.StmtForm.TheVariants as stmt
use Rattle.lk_tree.specs.declared.statement.Stmt.{Stmt}
use Rattle.lk_tree.specs.declared.statement.ForFirst.{ForFirst}
use Rattle.lk_tree.specs.declared.statement.ForFirst.TheVariants as first
use Rattle.lk_tree.specs.declared.statement.Decl.{Decl}
use Rattle.lk_tree.specs.declared.statement.Decl.TheVariants as decl
use Rattle.lk_tree.specs.declared.statement.Unit as unit

-- a part of a tree, given the next ordinal: the part with its ordinals, and the ordinal behind them
abbrev pub Numbered : Type 0 → Type 0
Numbered A = ℕ → A × ℕ

-- a part without a node in it
abbrev pub plain : {A : Type 0} → A → Numbered A
plain a n = (a, n)

-- one part, made into something
abbrev pub one : {A B : Type 0} → (A → B) → Numbered A → Numbered B
one make a n = let x = a n in (make x.0, x.1)

-- two parts, one after the other
abbrev pub two : {A B C : Type 0} → (A → B → C) → Numbered A → Numbered B → Numbered C
two make a b n = let x = a n in let y = b x.1 in (make x.0 y.0, y.1)

abbrev pub three : {A B C D : Type 0} → (A → B → C → D) → Numbered A → Numbered B → Numbered C → Numbered D
three make a b c n = let x = a n in let y = b x.1 in let z = c y.1 in (make x.0 y.0 z.0, z.1)

abbrev pub four : {A B C D E : Type 0} → (A → B → C → D → E) → Numbered A → Numbered B → Numbered C →
    Numbered D → Numbered E
four make a b c d n = let w = a n in let x = b w.1 in let y = c x.1 in let z = d y.1 in
    (make w.0 x.0 y.0 z.0, z.1)

abbrev pub list : {A : Type 0} → List (Numbered A) → Numbered (List A)
list [] n = ([], n)
list (a ∷ others) n = let x = a n in let y = list others x.1 in (x.0 ∷ y.0, y.1)

abbrev pub optional : {A : Type 0} → Option (Numbered A) → Numbered (Option A)
optional None n = (None, n)
optional (Some a) n = let x = a n in (Some x.0, x.1)

abbrev pub list_of : {A : Type 0} → (A → Numbered A) → List A → Numbered (List A)
list_of number [] n = ([], n)
list_of number (a ∷ others) n = let x = number a n in let y = list_of number others x.1 in (x.0 ∷ y.0, y.1)

abbrev pub optional_of : {A : Type 0} → (A → Numbered A) → Option A → Numbered (Option A)
optional_of number None n = (None, n)
optional_of number (Some a) n = let x = number a n in (Some x.0, x.1)

-- ---- expressions and declarators

abbrev pub DeclaratorFormLayer : Type 0
DeclaratorFormLayer =
    DeclaratorForm-F (Numbered DeclaratorForm) (Numbered ExprForm) (Numbered MemberDeclarator)
    (Numbered Specifier) (Numbered Declarator) (Numbered Expr) (Numbered Item) (Numbered Member)
    (Numbered Parameter) (Numbered TypeName)

abbrev pub ExprFormLayer : Type 0
ExprFormLayer =
    ExprForm-F (Numbered DeclaratorForm) (Numbered ExprForm) (Numbered MemberDeclarator) (Numbered Specifier)
    (Numbered Declarator) (Numbered Expr) (Numbered Item) (Numbered Member) (Numbered Parameter)
    (Numbered TypeName)

abbrev pub MemberDeclaratorLayer : Type 0
MemberDeclaratorLayer =
    MemberDeclarator-F (Numbered DeclaratorForm) (Numbered ExprForm) (Numbered MemberDeclarator)
    (Numbered Specifier) (Numbered Declarator) (Numbered Expr) (Numbered Item) (Numbered Member)
    (Numbered Parameter) (Numbered TypeName)

abbrev pub SpecifierLayer : Type 0
SpecifierLayer =
    Specifier-F (Numbered DeclaratorForm) (Numbered ExprForm) (Numbered MemberDeclarator) (Numbered Specifier)
    (Numbered Declarator) (Numbered Expr) (Numbered Item) (Numbered Member) (Numbered Parameter)
    (Numbered TypeName)

abbrev pub DeclaratorLayer : Type 0
DeclaratorLayer =
    Declarator-F (Numbered DeclaratorForm) (Numbered ExprForm) (Numbered MemberDeclarator)
    (Numbered Specifier) (Numbered Declarator) (Numbered Expr) (Numbered Item) (Numbered Member)
    (Numbered Parameter) (Numbered TypeName)

abbrev pub ExprLayer : Type 0
ExprLayer =
    Expr-F (Numbered DeclaratorForm) (Numbered ExprForm) (Numbered MemberDeclarator) (Numbered Specifier)
    (Numbered Declarator) (Numbered Expr) (Numbered Item) (Numbered Member) (Numbered Parameter)
    (Numbered TypeName)

abbrev pub ItemLayer : Type 0
ItemLayer =
    Item-F (Numbered DeclaratorForm) (Numbered ExprForm) (Numbered MemberDeclarator) (Numbered Specifier)
    (Numbered Declarator) (Numbered Expr) (Numbered Item) (Numbered Member) (Numbered Parameter)
    (Numbered TypeName)

abbrev pub MemberLayer : Type 0
MemberLayer =
    Member-F (Numbered DeclaratorForm) (Numbered ExprForm) (Numbered MemberDeclarator) (Numbered Specifier)
    (Numbered Declarator) (Numbered Expr) (Numbered Item) (Numbered Member) (Numbered Parameter)
    (Numbered TypeName)

abbrev pub ParameterLayer : Type 0
ParameterLayer =
    Parameter-F (Numbered DeclaratorForm) (Numbered ExprForm) (Numbered MemberDeclarator) (Numbered Specifier)
    (Numbered Declarator) (Numbered Expr) (Numbered Item) (Numbered Member) (Numbered Parameter)
    (Numbered TypeName)

abbrev pub TypeNameLayer : Type 0
TypeNameLayer =
    TypeName-F (Numbered DeclaratorForm) (Numbered ExprForm) (Numbered MemberDeclarator) (Numbered Specifier)
    (Numbered Declarator) (Numbered Expr) (Numbered Item) (Numbered Member) (Numbered Parameter)
    (Numbered TypeName)

abbrev pub in_declarator : DeclaratorFormLayer → Numbered DeclaratorForm
in_declarator (DeclaratorForm-F.Star qualifiers inner) = one (d.Star qualifiers) (optional inner)
in_declarator (DeclaratorForm-F.Named name) = plain (d.Named name)
in_declarator (DeclaratorForm-F.Group inner) = one d.Group inner
in_declarator (DeclaratorForm-F.ArrayOf inner size) = two d.ArrayOf (optional inner) (optional size)
in_declarator (DeclaratorForm-F.FunctionOf inner parameters dots) =
    two (λ inner parameters. d.FunctionOf inner parameters dots) (optional inner) (list parameters)

abbrev pub in_expr : ExprFormLayer → Numbered ExprForm
in_expr (ExprForm-F.Comma left right) = two e.Comma left right
in_expr (ExprForm-F.Assign op left right) = two (e.Assign op) left right
in_expr (ExprForm-F.Choice condition taken other) = three e.Choice condition taken other
in_expr (ExprForm-F.Binary op left right) = two (e.Binary op) left right
in_expr (ExprForm-F.Cast name operand) = two e.Cast name operand
in_expr (ExprForm-F.Pre op operand) = one (e.Pre op) operand
in_expr (ExprForm-F.Prefix op operand) = one (e.Prefix op) operand
in_expr (ExprForm-F.SizeofExpr operand) = one e.SizeofExpr operand
in_expr (ExprForm-F.SizeofType name) = one e.SizeofType name
in_expr (ExprForm-F.Index array inner) = two e.Index array inner
in_expr (ExprForm-F.Call function arguments) = two e.Call function (list arguments)
in_expr (ExprForm-F.Member object name) = one (λ object. e.Member object name) object
in_expr (ExprForm-F.Arrow pointer name) = one (λ pointer. e.Arrow pointer name) pointer
in_expr (ExprForm-F.Post op operand) = one (e.Post op) operand
in_expr (ExprForm-F.Word name) = plain (e.Word name)
in_expr (ExprForm-F.Number kind value) = plain (e.Number kind value)
in_expr (ExprForm-F.Char value) = plain (e.Char value)
in_expr (ExprForm-F.Text bytes) = plain (e.Text bytes)
in_expr (ExprForm-F.Paren inner) = one e.Paren inner

abbrev pub of_member_declarator : MemberDeclaratorLayer → Numbered MemberDeclarator
of_member_declarator (MemberDeclarator-F.Plain inner) = one m.Plain inner
of_member_declarator (MemberDeclarator-F.Field inner width) = two m.Field inner width
of_member_declarator (MemberDeclarator-F.Unnamed width) = one m.Unnamed width

abbrev pub of_specifier : SpecifierLayer → Numbered Specifier
of_specifier (Specifier-F.Storage word) = plain (s.Storage word)
of_specifier Specifier-F.Inline = plain s.Inline
of_specifier (Specifier-F.Qualifier word) = plain (s.Qualifier word)
of_specifier (Specifier-F.Type word) = plain (s.Type word)
of_specifier (Specifier-F.Struct tag members) = one (s.Struct tag) (list members)
of_specifier (Specifier-F.StructTag tag) = plain (s.StructTag tag)
of_specifier (Specifier-F.Enum tag items) = one (s.Enum tag) (list items)
of_specifier (Specifier-F.EnumTag tag) = plain (s.EnumTag tag)
of_specifier (Specifier-F.Typedef name) = plain (s.Typedef name)

abbrev pub of_declarator : DeclaratorLayer → Numbered Declarator
of_declarator node n = one (λ form. record { spot = node.spot; ordinal = n; form = form }) node.form (n + 1)

abbrev pub of_expr : ExprLayer → Numbered Expr
of_expr node n = one (λ form. record { spot = node.spot; ordinal = n; form = form }) node.form (n + 1)

abbrev pub of_item : ItemLayer → Numbered Item
of_item node n =
    one (λ value. roll-Item (record { spot = node.spot; ordinal = n; name = node.name; value = value }))
    (optional node.value) (n + 1)

abbrev pub of_member : MemberLayer → Numbered Member
of_member node n =
    two (λ specifiers declarators. record {
      spot = node.spot;
      ordinal = n;
      specifiers = specifiers;
      declarators = declarators;
    }) (list node.specifiers) (list node.declarators) (n + 1)

abbrev pub of_parameter : ParameterLayer → Numbered Parameter
of_parameter node n =
    two (λ specifiers inner. roll-Parameter
    (record { spot = node.spot; ordinal = n; specifiers = specifiers; declarator = inner }))
    (list node.specifiers) (optional node.declarator) (n + 1)

abbrev pub of_type_name : TypeNameLayer → Numbered TypeName
of_type_name node n =
    two (λ specifiers inner. roll-TypeName
    (record { spot = node.spot; ordinal = n; specifiers = specifiers; declarator = inner }))
    (list node.specifiers) (optional node.declarator) (n + 1)

unfoldable pub expr : Expr → Numbered Expr
expr =
    fold-Expr (Numbered DeclaratorForm) (Numbered ExprForm) (Numbered MemberDeclarator) (Numbered Specifier)
    (Numbered Declarator) (Numbered Expr) (Numbered Item) (Numbered Member) (Numbered Parameter)
    (Numbered TypeName)
    in_declarator in_expr of_member_declarator of_specifier of_declarator of_expr of_item of_member
    of_parameter of_type_name

unfoldable pub declarator : Declarator → Numbered Declarator
declarator =
    fold-Declarator (Numbered DeclaratorForm) (Numbered ExprForm) (Numbered MemberDeclarator)
    (Numbered Specifier) (Numbered Declarator) (Numbered Expr) (Numbered Item) (Numbered Member)
    (Numbered Parameter) (Numbered TypeName)
    in_declarator in_expr of_member_declarator of_specifier of_declarator of_expr of_item of_member
    of_parameter of_type_name

unfoldable pub specifier : Specifier → Numbered Specifier
specifier =
    fold-Specifier (Numbered DeclaratorForm) (Numbered ExprForm) (Numbered MemberDeclarator)
    (Numbered Specifier) (Numbered Declarator) (Numbered Expr) (Numbered Item) (Numbered Member)
    (Numbered Parameter) (Numbered TypeName)
    in_declarator in_expr of_member_declarator of_specifier of_declarator of_expr of_item of_member
    of_parameter of_type_name

-- ---- initialisers and declarations

abbrev pub of_designator : Designator → Numbered Designator
of_designator (designator.Member name) = plain (designator.Member name)
of_designator (designator.Index index) = one designator.Index (expr index)

abbrev pub of_init : Init-F (Numbered Init) (Numbered Entry) (Numbered InitList) → Numbered Init
of_init (Init-F.Expr value) = one init.Expr (expr value)
of_init (Init-F.List entries) = one init.List entries

abbrev pub of_entry : Entry-F (Numbered Init) (Numbered Entry) (Numbered InitList) → Numbered Entry
of_entry entry =
    two (λ designators value. record { designators = designators; init = value })
    (list_of of_designator entry.designators) entry.init

abbrev pub of_list : InitList-F (Numbered Init) (Numbered Entry) (Numbered InitList) → Numbered InitList
of_list node n =
    one (λ entries. roll-InitList (record { spot = node.spot; ordinal = n; entries = entries }))
    (list node.entries) (n + 1)

unfoldable pub initialiser : Init → Numbered Init
initialiser = fold-Init (Numbered Init) (Numbered Entry) (Numbered InitList) of_init of_entry of_list

abbrev pub of_init_declarator : InitDeclarator → Numbered InitDeclarator
of_init_declarator d =
    two (λ inner value. record { declarator = inner; init = value }) (declarator d.declarator)
    (optional_of initialiser d.init)

abbrev pub declare : Declare → Numbered Declare
declare node n =
    two (λ specifiers declarators. record { spot = node.spot; ordinal = n; specifiers = specifiers; declarators = declarators })
    (list_of specifier node.specifiers) (list_of of_init_declarator node.declarators) (n + 1)

-- ---- statements and units

abbrev pub of_first : ForFirst → Numbered ForFirst
of_first (first.Expr value) = one first.Expr (optional_of expr value)
of_first (first.Declare node) = one first.Declare (declare node)

abbrev pub of_block_item : BlockItem-F (Numbered BlockItem) (Numbered StmtForm) (Numbered Stmt) →
    Numbered BlockItem
of_block_item (BlockItem-F.Declare node) = one item.Declare (declare node)
of_block_item (BlockItem-F.Stmt inner) = one item.Stmt inner

abbrev pub in_stmt : StmtForm-F (Numbered BlockItem) (Numbered StmtForm) (Numbered Stmt) → Numbered StmtForm
in_stmt (StmtForm-F.Label name inner) = one (stmt.Label name) inner
in_stmt (StmtForm-F.Case value inner) = two stmt.Case (expr value) inner
in_stmt (StmtForm-F.Default inner) = one stmt.Default inner
in_stmt (StmtForm-F.Block items) = one stmt.Block (list items)
in_stmt (StmtForm-F.Do value) = one stmt.Do (optional_of expr value)
in_stmt (StmtForm-F.If value taken other) = three stmt.If (expr value) taken (optional other)
in_stmt (StmtForm-F.Switch value inner) = two stmt.Switch (expr value) inner
in_stmt (StmtForm-F.While value inner) = two stmt.While (expr value) inner
in_stmt (StmtForm-F.Until inner value) = two stmt.Until inner (expr value)
in_stmt (StmtForm-F.For start value step inner) =
    four stmt.For (of_first start) (optional_of expr value) (optional_of expr step) inner
in_stmt (StmtForm-F.Goto name) = plain (stmt.Goto name)
in_stmt StmtForm-F.Continue = plain stmt.Continue
in_stmt StmtForm-F.Break = plain stmt.Break
in_stmt (StmtForm-F.Return value) = one stmt.Return (optional_of expr value)

abbrev pub of_stmt : Stmt-F (Numbered BlockItem) (Numbered StmtForm) (Numbered Stmt) → Numbered Stmt
of_stmt node n = one (λ form. record { spot = node.spot; ordinal = n; form = form }) node.form (n + 1)

unfoldable pub statement : Stmt → Numbered Stmt
statement = fold-Stmt (Numbered BlockItem) (Numbered StmtForm) (Numbered Stmt) of_block_item in_stmt of_stmt

abbrev pub of_decl : Decl → Numbered Decl
of_decl (decl.Function node) n =
    three (λ specifiers inner body. decl.Function
    (record { spot = node.spot; ordinal = n; specifiers = specifiers; declarator = inner; body = body }))
    (list_of specifier node.specifiers) (declarator node.declarator) (statement node.body) (n + 1)
of_decl (decl.Declare node) n = one decl.Declare (declare node) n
of_decl (decl.Empty node) n = (decl.Empty (record { spot = node.spot; ordinal = n }), n + 1)

-- the tree with its ordinals, from 0 on
abbrev pub numbered : unit.Unit → unit.Unit
numbered tree = record { externals = (list_of of_decl tree.externals 0).0 }

-- how many nodes a tree has
abbrev pub count : unit.Unit → ℕ
count tree = (list_of of_decl tree.externals 0).1
