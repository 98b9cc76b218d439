-- The ordinals of the parts of expressions, declarators and specifiers, as those of whole ones are given.
use Rattle.lk_tree.specs.declared.expression.DeclaratorForm.TheFolds.{fold-DeclaratorForm, fold-ExprForm, fold-MemberDeclarator, fold-Item, fold-Member, fold-Parameter, fold-TypeName}
use Rattle.lk_tree.specs.declared.expression.DeclaratorForm.{DeclaratorForm}
use Rattle.lk_tree.specs.declared.expression.ExprForm.{ExprForm}
use Rattle.lk_tree.specs.declared.expression.MemberDeclarator.{MemberDeclarator}
use Rattle.lk_tree.specs.declared.expression.Specifier.{Specifier}
use Rattle.lk_tree.specs.declared.expression.Declarator.{Declarator}
use Rattle.lk_tree.specs.declared.expression.Expr.{Expr}
use Rattle.lk_tree.specs.declared.expression.Item.{Item}
use Rattle.lk_tree.specs.declared.expression.Member.{Member}
use Rattle.lk_tree.specs.declared.expression.Parameter.{Parameter}
use Rattle.lk_tree.specs.declared.expression.TypeName.{TypeName}
use Rattle.lk_tree.specs.declared.declaration.Init.TheFolds.{fold-Entry, fold-InitList}
use Rattle.lk_tree.specs.declared.declaration.Init.{Init}
use Rattle.lk_tree.specs.declared.declaration.InitList.{InitList}
use Rattle.lk_tree.specs.declared.declaration.Entry.{Entry}
use Rattle.lk_tree.specs.declared.statement.BlockItem.TheFolds.{fold-BlockItem, fold-StmtForm}
use Rattle.lk_tree.specs.declared.statement.BlockItem.{BlockItem}
use Rattle.lk_tree.specs.declared.statement.StmtForm.{StmtForm}
use Rattle.lk_tree.specs.declared.statement.Stmt.{Stmt}
use Rattle.lk_tree.specs.Numbers.{Numbered, in_declarator, in_expr, of_member_declarator, of_specifier, of_declarator, of_expr, of_item, of_member, of_parameter, of_type_name, of_init, of_entry, of_list, of_block_item, in_stmt, of_stmt}

abbrev pub declarator_form : DeclaratorForm → Numbered DeclaratorForm
declarator_form =
    fold-DeclaratorForm (Numbered DeclaratorForm) (Numbered ExprForm) (Numbered MemberDeclarator)
    (Numbered Specifier) (Numbered Declarator) (Numbered Expr) (Numbered Item) (Numbered Member)
    (Numbered Parameter) (Numbered TypeName)
    in_declarator in_expr of_member_declarator of_specifier of_declarator of_expr of_item of_member
    of_parameter of_type_name

abbrev pub expr_form : ExprForm → Numbered ExprForm
expr_form =
    fold-ExprForm (Numbered DeclaratorForm) (Numbered ExprForm) (Numbered MemberDeclarator)
    (Numbered Specifier) (Numbered Declarator) (Numbered Expr) (Numbered Item) (Numbered Member)
    (Numbered Parameter) (Numbered TypeName)
    in_declarator in_expr of_member_declarator of_specifier of_declarator of_expr of_item of_member
    of_parameter of_type_name

abbrev pub member_declarator : MemberDeclarator → Numbered MemberDeclarator
member_declarator =
    fold-MemberDeclarator (Numbered DeclaratorForm) (Numbered ExprForm) (Numbered MemberDeclarator)
    (Numbered Specifier) (Numbered Declarator) (Numbered Expr) (Numbered Item) (Numbered Member)
    (Numbered Parameter) (Numbered TypeName)
    in_declarator in_expr of_member_declarator of_specifier of_declarator of_expr of_item of_member
    of_parameter of_type_name

abbrev pub item : Item → Numbered Item
item =
    fold-Item (Numbered DeclaratorForm) (Numbered ExprForm) (Numbered MemberDeclarator) (Numbered Specifier)
    (Numbered Declarator) (Numbered Expr) (Numbered Item) (Numbered Member) (Numbered Parameter)
    (Numbered TypeName)
    in_declarator in_expr of_member_declarator of_specifier of_declarator of_expr of_item of_member
    of_parameter of_type_name

abbrev pub member : Member → Numbered Member
member =
    fold-Member (Numbered DeclaratorForm) (Numbered ExprForm) (Numbered MemberDeclarator) (Numbered Specifier)
    (Numbered Declarator) (Numbered Expr) (Numbered Item) (Numbered Member) (Numbered Parameter)
    (Numbered TypeName)
    in_declarator in_expr of_member_declarator of_specifier of_declarator of_expr of_item of_member
    of_parameter of_type_name

abbrev pub parameter : Parameter → Numbered Parameter
parameter =
    fold-Parameter (Numbered DeclaratorForm) (Numbered ExprForm) (Numbered MemberDeclarator)
    (Numbered Specifier) (Numbered Declarator) (Numbered Expr) (Numbered Item) (Numbered Member)
    (Numbered Parameter) (Numbered TypeName)
    in_declarator in_expr of_member_declarator of_specifier of_declarator of_expr of_item of_member
    of_parameter of_type_name

abbrev pub type_name : TypeName → Numbered TypeName
type_name =
    fold-TypeName (Numbered DeclaratorForm) (Numbered ExprForm) (Numbered MemberDeclarator)
    (Numbered Specifier) (Numbered Declarator) (Numbered Expr) (Numbered Item) (Numbered Member)
    (Numbered Parameter) (Numbered TypeName)
    in_declarator in_expr of_member_declarator of_specifier of_declarator of_expr of_item of_member
    of_parameter of_type_name

abbrev pub entry : Entry → Numbered Entry
entry = fold-Entry (Numbered Init) (Numbered Entry) (Numbered InitList) of_init of_entry of_list

abbrev pub init_list : InitList → Numbered InitList
init_list = fold-InitList (Numbered Init) (Numbered Entry) (Numbered InitList) of_init of_entry of_list

abbrev pub block_item : BlockItem → Numbered BlockItem
block_item =
    fold-BlockItem (Numbered BlockItem) (Numbered StmtForm) (Numbered Stmt) of_block_item in_stmt of_stmt

abbrev pub stmt_form : StmtForm → Numbered StmtForm
stmt_form =
    fold-StmtForm (Numbered BlockItem) (Numbered StmtForm) (Numbered Stmt) of_block_item in_stmt of_stmt
