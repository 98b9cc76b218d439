-- How many ordinals each form of a tree takes, by its parts.
use Rattle.std.proofs.Common.{◌≡◌, ℕ, ℤ, ◌+◌, Bool, List, Option, None, Some, map, sym, ap, ◌∙◌}
use Rattle.std.specs.Option.{option_map}
use Rattle.lk_base.specs.declared.kind.Kind.{Kind}
use Rattle.lk_base.specs.declared.spot.Spot.{Spot}
use Rattle.lk_tree.specs.declared.operators.BinaryOperator.{BinaryOperator}
use Rattle.lk_tree.specs.declared.operators.AssignOperator.{AssignOperator}
use Rattle.lk_tree.specs.declared.operators.StepOperator.{StepOperator}
use Rattle.lk_tree.specs.declared.operators.PrefixOperator.{PrefixOperator}
use Rattle.lk_tree.specs.declared.specifiers.Qualifier.{Qualifier}
use Rattle.lk_tree.specs.declared.specifiers.Storage.{Storage}
use Rattle.lk_tree.specs.declared.specifiers.TypeWord.{TypeWord}
use Rattle.lk_tree.specs.declared.expression.DeclaratorForm.TheOpen.{DeclaratorForm-F, ExprForm-F, MemberDeclarator-F, Specifier-F}
use Rattle.lk_tree.specs.declared.expression.DeclaratorForm.TheFolds.{fold-roll-DeclaratorForm, fold-roll-ExprForm, fold-roll-MemberDeclarator, fold-roll-Specifier, fold-roll-Declarator, fold-roll-Expr, fold-roll-Item, fold-roll-Member, fold-roll-Parameter, fold-roll-TypeName}
use Rattle.lk_tree.specs.declared.expression.DeclaratorForm.{DeclaratorForm}
use Rattle.lk_tree.specs.declared.expression.DeclaratorForm.TheVariants as d
use Rattle.lk_tree.specs.declared.expression.ExprForm.{ExprForm}
use Rattle.lk_tree.specs.declared.expression.ExprForm.TheVariants as e
use Rattle.lk_tree.specs.declared.expression.MemberDeclarator.{MemberDeclarator}
use Rattle.lk_tree.specs.declared.expression.MemberDeclarator.TheVariants as m
use Rattle.lk_tree.specs.declared.expression.Specifier.{Specifier}
use Rattle.lk_tree.specs.declared.expression.Specifier.TheVariants as s
use Rattle.lk_tree.specs.declared.expression.Declarator.{Declarator}
use Rattle.lk_tree.specs.declared.expression.Expr.{Expr}
use Rattle.lk_tree.specs.declared.expression.Item.{Item, roll-Item}
use Rattle.lk_tree.specs.declared.expression.Member.{Member}
use Rattle.lk_tree.specs.declared.expression.Parameter.{Parameter, roll-Parameter}
use Rattle.lk_tree.specs.declared.expression.TypeName.{TypeName, roll-TypeName}
use Rattle.lk_tree.specs.declared.declaration.Init.TheOpen.{Init-F}
use Rattle.lk_tree.specs.declared.declaration.Init.TheFolds.{fold-roll-Init, fold-roll-Entry, fold-roll-InitList}
use Rattle.lk_tree.specs.declared.declaration.Init.{Init}
use Rattle.lk_tree.specs.declared.declaration.Init.TheVariants as init
use Rattle.lk_tree.specs.declared.declaration.InitList.{InitList, roll-InitList}
use Rattle.lk_tree.specs.declared.declaration.Entry.{Entry}
use Rattle.lk_tree.specs.declared.declaration.Designator.{Designator}
use Rattle.lk_tree.specs.declared.declaration.Declare.{Declare}
use Rattle.lk_tree.specs.declared.statement.BlockItem.TheOpen.{BlockItem-F, StmtForm-F}
use Rattle.lk_tree.specs.declared.statement.BlockItem.TheFolds.{fold-roll-BlockItem, fold-roll-StmtForm, fold-roll-Stmt}
use Rattle.lk_tree.specs.declared.statement.BlockItem.{BlockItem}
use Rattle.lk_tree.specs.declared.statement.BlockItem.TheVariants as item
use Rattle.lk_tree.specs.declared.statement.StmtForm.{StmtForm}
use Rattle.lk_tree.specs.declared.statement.StmtForm.TheVariants as stmt
use Rattle.lk_tree.specs.declared.statement.Stmt.{Stmt}
use Rattle.lk_tree.specs.declared.statement.ForFirst.{ForFirst}
use Rattle.lk_tree.specs.Numbers.{Numbered, list, list_of, of_designator, optional, optional_of, expr, declarator, specifier, initialiser, statement, declare, of_first, in_declarator, in_expr, of_member_declarator, of_specifier, of_declarator, of_expr, of_item, of_member, of_parameter, of_type_name, of_init, of_entry, of_list, of_block_item, in_stmt, of_stmt}
use Rattle.lk_ordinals.specs.Parts.{declarator_form, expr_form, member_declarator, item, member, parameter, type_name, entry, init_list, block_item, stmt_form}

pub expr-Comma : (a : Expr) (b : Expr) (n : ℕ) → (expr_form (e.Comma a b) n).1 ≡ (expr b (expr a n).1).1
unfolding expr declarator specifier
expr-Comma a b n = ap (λ f. (f n).1) (ap expr_form (sym (e.rolls-Comma a b)) ∙ fold-roll-ExprForm (Numbered DeclaratorForm) (Numbered ExprForm) (Numbered MemberDeclarator) (Numbered Specifier) (Numbered Declarator) (Numbered Expr) (Numbered Item) (Numbered Member) (Numbered Parameter) (Numbered TypeName) in_declarator in_expr of_member_declarator of_specifier of_declarator of_expr of_item of_member of_parameter of_type_name (ExprForm-F.Comma a b))

pub expr-Assign : (op : AssignOperator) (a : Expr) (b : Expr) (n : ℕ) → (expr_form (e.Assign op a b) n).1 ≡ (expr b (expr a n).1).1
unfolding expr declarator specifier
expr-Assign op a b n = ap (λ f. (f n).1) (ap expr_form (sym (e.rolls-Assign op a b)) ∙ fold-roll-ExprForm (Numbered DeclaratorForm) (Numbered ExprForm) (Numbered MemberDeclarator) (Numbered Specifier) (Numbered Declarator) (Numbered Expr) (Numbered Item) (Numbered Member) (Numbered Parameter) (Numbered TypeName) in_declarator in_expr of_member_declarator of_specifier of_declarator of_expr of_item of_member of_parameter of_type_name (ExprForm-F.Assign op a b))

pub expr-Choice : (a : Expr) (b : Expr) (c : Expr) (n : ℕ) → (expr_form (e.Choice a b c) n).1 ≡ (expr c (expr b (expr a n).1).1).1
unfolding expr declarator specifier
expr-Choice a b c n = ap (λ f. (f n).1) (ap expr_form (sym (e.rolls-Choice a b c)) ∙ fold-roll-ExprForm (Numbered DeclaratorForm) (Numbered ExprForm) (Numbered MemberDeclarator) (Numbered Specifier) (Numbered Declarator) (Numbered Expr) (Numbered Item) (Numbered Member) (Numbered Parameter) (Numbered TypeName) in_declarator in_expr of_member_declarator of_specifier of_declarator of_expr of_item of_member of_parameter of_type_name (ExprForm-F.Choice a b c))

pub expr-Binary : (op : BinaryOperator) (a : Expr) (b : Expr) (n : ℕ) → (expr_form (e.Binary op a b) n).1 ≡ (expr b (expr a n).1).1
unfolding expr declarator specifier
expr-Binary op a b n = ap (λ f. (f n).1) (ap expr_form (sym (e.rolls-Binary op a b)) ∙ fold-roll-ExprForm (Numbered DeclaratorForm) (Numbered ExprForm) (Numbered MemberDeclarator) (Numbered Specifier) (Numbered Declarator) (Numbered Expr) (Numbered Item) (Numbered Member) (Numbered Parameter) (Numbered TypeName) in_declarator in_expr of_member_declarator of_specifier of_declarator of_expr of_item of_member of_parameter of_type_name (ExprForm-F.Binary op a b))

pub expr-Cast : (name : TypeName) (a : Expr) (n : ℕ) → (expr_form (e.Cast name a) n).1 ≡ (expr a (type_name name n).1).1
unfolding expr declarator specifier
expr-Cast name a n = ap (λ f. (f n).1) (ap expr_form (sym (e.rolls-Cast name a)) ∙ fold-roll-ExprForm (Numbered DeclaratorForm) (Numbered ExprForm) (Numbered MemberDeclarator) (Numbered Specifier) (Numbered Declarator) (Numbered Expr) (Numbered Item) (Numbered Member) (Numbered Parameter) (Numbered TypeName) in_declarator in_expr of_member_declarator of_specifier of_declarator of_expr of_item of_member of_parameter of_type_name (ExprForm-F.Cast name a))

pub expr-Pre : (op : StepOperator) (a : Expr) (n : ℕ) → (expr_form (e.Pre op a) n).1 ≡ (expr a n).1
unfolding expr declarator specifier
expr-Pre op a n = ap (λ f. (f n).1) (ap expr_form (sym (e.rolls-Pre op a)) ∙ fold-roll-ExprForm (Numbered DeclaratorForm) (Numbered ExprForm) (Numbered MemberDeclarator) (Numbered Specifier) (Numbered Declarator) (Numbered Expr) (Numbered Item) (Numbered Member) (Numbered Parameter) (Numbered TypeName) in_declarator in_expr of_member_declarator of_specifier of_declarator of_expr of_item of_member of_parameter of_type_name (ExprForm-F.Pre op a))

pub expr-Prefix : (op : PrefixOperator) (a : Expr) (n : ℕ) → (expr_form (e.Prefix op a) n).1 ≡ (expr a n).1
unfolding expr declarator specifier
expr-Prefix op a n = ap (λ f. (f n).1) (ap expr_form (sym (e.rolls-Prefix op a)) ∙ fold-roll-ExprForm (Numbered DeclaratorForm) (Numbered ExprForm) (Numbered MemberDeclarator) (Numbered Specifier) (Numbered Declarator) (Numbered Expr) (Numbered Item) (Numbered Member) (Numbered Parameter) (Numbered TypeName) in_declarator in_expr of_member_declarator of_specifier of_declarator of_expr of_item of_member of_parameter of_type_name (ExprForm-F.Prefix op a))

pub expr-SizeofExpr : (a : Expr) (n : ℕ) → (expr_form (e.SizeofExpr a) n).1 ≡ (expr a n).1
unfolding expr declarator specifier
expr-SizeofExpr a n = ap (λ f. (f n).1) (ap expr_form (sym (e.rolls-SizeofExpr a)) ∙ fold-roll-ExprForm (Numbered DeclaratorForm) (Numbered ExprForm) (Numbered MemberDeclarator) (Numbered Specifier) (Numbered Declarator) (Numbered Expr) (Numbered Item) (Numbered Member) (Numbered Parameter) (Numbered TypeName) in_declarator in_expr of_member_declarator of_specifier of_declarator of_expr of_item of_member of_parameter of_type_name (ExprForm-F.SizeofExpr a))

pub expr-SizeofType : (name : TypeName) (n : ℕ) → (expr_form (e.SizeofType name) n).1 ≡ (type_name name n).1
unfolding expr declarator specifier
expr-SizeofType name n = ap (λ f. (f n).1) (ap expr_form (sym (e.rolls-SizeofType name)) ∙ fold-roll-ExprForm (Numbered DeclaratorForm) (Numbered ExprForm) (Numbered MemberDeclarator) (Numbered Specifier) (Numbered Declarator) (Numbered Expr) (Numbered Item) (Numbered Member) (Numbered Parameter) (Numbered TypeName) in_declarator in_expr of_member_declarator of_specifier of_declarator of_expr of_item of_member of_parameter of_type_name (ExprForm-F.SizeofType name))

pub expr-Index : (a : Expr) (b : Expr) (n : ℕ) → (expr_form (e.Index a b) n).1 ≡ (expr b (expr a n).1).1
unfolding expr declarator specifier
expr-Index a b n = ap (λ f. (f n).1) (ap expr_form (sym (e.rolls-Index a b)) ∙ fold-roll-ExprForm (Numbered DeclaratorForm) (Numbered ExprForm) (Numbered MemberDeclarator) (Numbered Specifier) (Numbered Declarator) (Numbered Expr) (Numbered Item) (Numbered Member) (Numbered Parameter) (Numbered TypeName) in_declarator in_expr of_member_declarator of_specifier of_declarator of_expr of_item of_member of_parameter of_type_name (ExprForm-F.Index a b))

pub expr-Call : (a : Expr) (xs : List Expr) (n : ℕ) → (expr_form (e.Call a xs) n).1 ≡ (list (map expr xs) (expr a n).1).1
unfolding expr declarator specifier
expr-Call a xs n = ap (λ f. (f n).1) (ap expr_form (sym (e.rolls-Call a xs)) ∙ fold-roll-ExprForm (Numbered DeclaratorForm) (Numbered ExprForm) (Numbered MemberDeclarator) (Numbered Specifier) (Numbered Declarator) (Numbered Expr) (Numbered Item) (Numbered Member) (Numbered Parameter) (Numbered TypeName) in_declarator in_expr of_member_declarator of_specifier of_declarator of_expr of_item of_member of_parameter of_type_name (ExprForm-F.Call a xs))

pub expr-Member : (a : Expr) (name : List ℕ) (n : ℕ) → (expr_form (e.Member a name) n).1 ≡ (expr a n).1
unfolding expr declarator specifier
expr-Member a name n = ap (λ f. (f n).1) (ap expr_form (sym (e.rolls-Member a name)) ∙ fold-roll-ExprForm (Numbered DeclaratorForm) (Numbered ExprForm) (Numbered MemberDeclarator) (Numbered Specifier) (Numbered Declarator) (Numbered Expr) (Numbered Item) (Numbered Member) (Numbered Parameter) (Numbered TypeName) in_declarator in_expr of_member_declarator of_specifier of_declarator of_expr of_item of_member of_parameter of_type_name (ExprForm-F.Member a name))

pub expr-Arrow : (a : Expr) (name : List ℕ) (n : ℕ) → (expr_form (e.Arrow a name) n).1 ≡ (expr a n).1
unfolding expr declarator specifier
expr-Arrow a name n = ap (λ f. (f n).1) (ap expr_form (sym (e.rolls-Arrow a name)) ∙ fold-roll-ExprForm (Numbered DeclaratorForm) (Numbered ExprForm) (Numbered MemberDeclarator) (Numbered Specifier) (Numbered Declarator) (Numbered Expr) (Numbered Item) (Numbered Member) (Numbered Parameter) (Numbered TypeName) in_declarator in_expr of_member_declarator of_specifier of_declarator of_expr of_item of_member of_parameter of_type_name (ExprForm-F.Arrow a name))

pub expr-Post : (op : StepOperator) (a : Expr) (n : ℕ) → (expr_form (e.Post op a) n).1 ≡ (expr a n).1
unfolding expr declarator specifier
expr-Post op a n = ap (λ f. (f n).1) (ap expr_form (sym (e.rolls-Post op a)) ∙ fold-roll-ExprForm (Numbered DeclaratorForm) (Numbered ExprForm) (Numbered MemberDeclarator) (Numbered Specifier) (Numbered Declarator) (Numbered Expr) (Numbered Item) (Numbered Member) (Numbered Parameter) (Numbered TypeName) in_declarator in_expr of_member_declarator of_specifier of_declarator of_expr of_item of_member of_parameter of_type_name (ExprForm-F.Post op a))

pub expr-Word : (name : List ℕ) (n : ℕ) → (expr_form (e.Word name) n).1 ≡ n
unfolding expr declarator specifier
expr-Word name n = ap (λ f. (f n).1) (ap expr_form (sym (e.rolls-Word name)) ∙ fold-roll-ExprForm (Numbered DeclaratorForm) (Numbered ExprForm) (Numbered MemberDeclarator) (Numbered Specifier) (Numbered Declarator) (Numbered Expr) (Numbered Item) (Numbered Member) (Numbered Parameter) (Numbered TypeName) in_declarator in_expr of_member_declarator of_specifier of_declarator of_expr of_item of_member of_parameter of_type_name (ExprForm-F.Word name))

pub expr-Number : (kind : Kind) (value : ℕ) (n : ℕ) → (expr_form (e.Number kind value) n).1 ≡ n
unfolding expr declarator specifier
expr-Number kind value n = ap (λ f. (f n).1) (ap expr_form (sym (e.rolls-Number kind value)) ∙ fold-roll-ExprForm (Numbered DeclaratorForm) (Numbered ExprForm) (Numbered MemberDeclarator) (Numbered Specifier) (Numbered Declarator) (Numbered Expr) (Numbered Item) (Numbered Member) (Numbered Parameter) (Numbered TypeName) in_declarator in_expr of_member_declarator of_specifier of_declarator of_expr of_item of_member of_parameter of_type_name (ExprForm-F.Number kind value))

pub expr-Char : (value : ℤ) (n : ℕ) → (expr_form (e.Char value) n).1 ≡ n
unfolding expr declarator specifier
expr-Char value n = ap (λ f. (f n).1) (ap expr_form (sym (e.rolls-Char value)) ∙ fold-roll-ExprForm (Numbered DeclaratorForm) (Numbered ExprForm) (Numbered MemberDeclarator) (Numbered Specifier) (Numbered Declarator) (Numbered Expr) (Numbered Item) (Numbered Member) (Numbered Parameter) (Numbered TypeName) in_declarator in_expr of_member_declarator of_specifier of_declarator of_expr of_item of_member of_parameter of_type_name (ExprForm-F.Char value))

pub expr-Text : (bytes : List ℕ) (n : ℕ) → (expr_form (e.Text bytes) n).1 ≡ n
unfolding expr declarator specifier
expr-Text bytes n = ap (λ f. (f n).1) (ap expr_form (sym (e.rolls-Text bytes)) ∙ fold-roll-ExprForm (Numbered DeclaratorForm) (Numbered ExprForm) (Numbered MemberDeclarator) (Numbered Specifier) (Numbered Declarator) (Numbered Expr) (Numbered Item) (Numbered Member) (Numbered Parameter) (Numbered TypeName) in_declarator in_expr of_member_declarator of_specifier of_declarator of_expr of_item of_member of_parameter of_type_name (ExprForm-F.Text bytes))

pub expr-Paren : (a : Expr) (n : ℕ) → (expr_form (e.Paren a) n).1 ≡ (expr a n).1
unfolding expr declarator specifier
expr-Paren a n = ap (λ f. (f n).1) (ap expr_form (sym (e.rolls-Paren a)) ∙ fold-roll-ExprForm (Numbered DeclaratorForm) (Numbered ExprForm) (Numbered MemberDeclarator) (Numbered Specifier) (Numbered Declarator) (Numbered Expr) (Numbered Item) (Numbered Member) (Numbered Parameter) (Numbered TypeName) in_declarator in_expr of_member_declarator of_specifier of_declarator of_expr of_item of_member of_parameter of_type_name (ExprForm-F.Paren a))

pub declarator-Star : (list_ : List Qualifier) (inner : Option Declarator) (n : ℕ) → (declarator_form (d.Star list_ inner) n).1 ≡ (optional (option_map declarator inner) n).1
unfolding expr declarator specifier
declarator-Star list_ None n = ap (λ f. (f n).1) (ap declarator_form (sym (d.rolls-Star list_ None)) ∙ fold-roll-DeclaratorForm (Numbered DeclaratorForm) (Numbered ExprForm) (Numbered MemberDeclarator) (Numbered Specifier) (Numbered Declarator) (Numbered Expr) (Numbered Item) (Numbered Member) (Numbered Parameter) (Numbered TypeName) in_declarator in_expr of_member_declarator of_specifier of_declarator of_expr of_item of_member of_parameter of_type_name (DeclaratorForm-F.Star list_ None))
declarator-Star list_ (Some inner) n = ap (λ f. (f n).1) (ap declarator_form (sym (d.rolls-Star list_ (Some inner))) ∙ fold-roll-DeclaratorForm (Numbered DeclaratorForm) (Numbered ExprForm) (Numbered MemberDeclarator) (Numbered Specifier) (Numbered Declarator) (Numbered Expr) (Numbered Item) (Numbered Member) (Numbered Parameter) (Numbered TypeName) in_declarator in_expr of_member_declarator of_specifier of_declarator of_expr of_item of_member of_parameter of_type_name (DeclaratorForm-F.Star list_ (Some inner)))

pub declarator-Named : (name : List ℕ) (n : ℕ) → (declarator_form (d.Named name) n).1 ≡ n
unfolding expr declarator specifier
declarator-Named name n = ap (λ f. (f n).1) (ap declarator_form (sym (d.rolls-Named name)) ∙ fold-roll-DeclaratorForm (Numbered DeclaratorForm) (Numbered ExprForm) (Numbered MemberDeclarator) (Numbered Specifier) (Numbered Declarator) (Numbered Expr) (Numbered Item) (Numbered Member) (Numbered Parameter) (Numbered TypeName) in_declarator in_expr of_member_declarator of_specifier of_declarator of_expr of_item of_member of_parameter of_type_name (DeclaratorForm-F.Named name))

pub declarator-Group : (inner : Declarator) (n : ℕ) → (declarator_form (d.Group inner) n).1 ≡ (declarator inner n).1
unfolding expr declarator specifier
declarator-Group inner n = ap (λ f. (f n).1) (ap declarator_form (sym (d.rolls-Group inner)) ∙ fold-roll-DeclaratorForm (Numbered DeclaratorForm) (Numbered ExprForm) (Numbered MemberDeclarator) (Numbered Specifier) (Numbered Declarator) (Numbered Expr) (Numbered Item) (Numbered Member) (Numbered Parameter) (Numbered TypeName) in_declarator in_expr of_member_declarator of_specifier of_declarator of_expr of_item of_member of_parameter of_type_name (DeclaratorForm-F.Group inner))

pub declarator-ArrayOf : (inner : Option Declarator) (size : Option Expr) (n : ℕ) → (declarator_form (d.ArrayOf inner size) n).1 ≡ (optional (option_map expr size) (optional (option_map declarator inner) n).1).1
unfolding expr declarator specifier
declarator-ArrayOf None None n = ap (λ f. (f n).1) (ap declarator_form (sym (d.rolls-ArrayOf None None)) ∙ fold-roll-DeclaratorForm (Numbered DeclaratorForm) (Numbered ExprForm) (Numbered MemberDeclarator) (Numbered Specifier) (Numbered Declarator) (Numbered Expr) (Numbered Item) (Numbered Member) (Numbered Parameter) (Numbered TypeName) in_declarator in_expr of_member_declarator of_specifier of_declarator of_expr of_item of_member of_parameter of_type_name (DeclaratorForm-F.ArrayOf None None))
declarator-ArrayOf None (Some size) n = ap (λ f. (f n).1) (ap declarator_form (sym (d.rolls-ArrayOf None (Some size))) ∙ fold-roll-DeclaratorForm (Numbered DeclaratorForm) (Numbered ExprForm) (Numbered MemberDeclarator) (Numbered Specifier) (Numbered Declarator) (Numbered Expr) (Numbered Item) (Numbered Member) (Numbered Parameter) (Numbered TypeName) in_declarator in_expr of_member_declarator of_specifier of_declarator of_expr of_item of_member of_parameter of_type_name (DeclaratorForm-F.ArrayOf None (Some size)))
declarator-ArrayOf (Some inner) None n = ap (λ f. (f n).1) (ap declarator_form (sym (d.rolls-ArrayOf (Some inner) None)) ∙ fold-roll-DeclaratorForm (Numbered DeclaratorForm) (Numbered ExprForm) (Numbered MemberDeclarator) (Numbered Specifier) (Numbered Declarator) (Numbered Expr) (Numbered Item) (Numbered Member) (Numbered Parameter) (Numbered TypeName) in_declarator in_expr of_member_declarator of_specifier of_declarator of_expr of_item of_member of_parameter of_type_name (DeclaratorForm-F.ArrayOf (Some inner) None))
declarator-ArrayOf (Some inner) (Some size) n = ap (λ f. (f n).1) (ap declarator_form (sym (d.rolls-ArrayOf (Some inner) (Some size))) ∙ fold-roll-DeclaratorForm (Numbered DeclaratorForm) (Numbered ExprForm) (Numbered MemberDeclarator) (Numbered Specifier) (Numbered Declarator) (Numbered Expr) (Numbered Item) (Numbered Member) (Numbered Parameter) (Numbered TypeName) in_declarator in_expr of_member_declarator of_specifier of_declarator of_expr of_item of_member of_parameter of_type_name (DeclaratorForm-F.ArrayOf (Some inner) (Some size)))

pub declarator-FunctionOf : (inner : Option Declarator) (xs : List Parameter) (dots : Bool) (n : ℕ) → (declarator_form (d.FunctionOf inner xs dots) n).1 ≡ (list (map parameter xs) (optional (option_map declarator inner) n).1).1
unfolding expr declarator specifier
declarator-FunctionOf None xs dots n = ap (λ f. (f n).1) (ap declarator_form (sym (d.rolls-FunctionOf None xs dots)) ∙ fold-roll-DeclaratorForm (Numbered DeclaratorForm) (Numbered ExprForm) (Numbered MemberDeclarator) (Numbered Specifier) (Numbered Declarator) (Numbered Expr) (Numbered Item) (Numbered Member) (Numbered Parameter) (Numbered TypeName) in_declarator in_expr of_member_declarator of_specifier of_declarator of_expr of_item of_member of_parameter of_type_name (DeclaratorForm-F.FunctionOf None xs dots))
declarator-FunctionOf (Some inner) xs dots n = ap (λ f. (f n).1) (ap declarator_form (sym (d.rolls-FunctionOf (Some inner) xs dots)) ∙ fold-roll-DeclaratorForm (Numbered DeclaratorForm) (Numbered ExprForm) (Numbered MemberDeclarator) (Numbered Specifier) (Numbered Declarator) (Numbered Expr) (Numbered Item) (Numbered Member) (Numbered Parameter) (Numbered TypeName) in_declarator in_expr of_member_declarator of_specifier of_declarator of_expr of_item of_member of_parameter of_type_name (DeclaratorForm-F.FunctionOf (Some inner) xs dots))

pub field-Plain : (inner : Declarator) (n : ℕ) → (member_declarator (m.Plain inner) n).1 ≡ (declarator inner n).1
unfolding expr declarator specifier
field-Plain inner n = ap (λ f. (f n).1) (ap member_declarator (sym (m.rolls-Plain inner)) ∙ fold-roll-MemberDeclarator (Numbered DeclaratorForm) (Numbered ExprForm) (Numbered MemberDeclarator) (Numbered Specifier) (Numbered Declarator) (Numbered Expr) (Numbered Item) (Numbered Member) (Numbered Parameter) (Numbered TypeName) in_declarator in_expr of_member_declarator of_specifier of_declarator of_expr of_item of_member of_parameter of_type_name (MemberDeclarator-F.Plain inner))

pub field-Field : (inner : Declarator) (a : Expr) (n : ℕ) → (member_declarator (m.Field inner a) n).1 ≡ (expr a (declarator inner n).1).1
unfolding expr declarator specifier
field-Field inner a n = ap (λ f. (f n).1) (ap member_declarator (sym (m.rolls-Field inner a)) ∙ fold-roll-MemberDeclarator (Numbered DeclaratorForm) (Numbered ExprForm) (Numbered MemberDeclarator) (Numbered Specifier) (Numbered Declarator) (Numbered Expr) (Numbered Item) (Numbered Member) (Numbered Parameter) (Numbered TypeName) in_declarator in_expr of_member_declarator of_specifier of_declarator of_expr of_item of_member of_parameter of_type_name (MemberDeclarator-F.Field inner a))

pub field-Unnamed : (a : Expr) (n : ℕ) → (member_declarator (m.Unnamed a) n).1 ≡ (expr a n).1
unfolding expr declarator specifier
field-Unnamed a n = ap (λ f. (f n).1) (ap member_declarator (sym (m.rolls-Unnamed a)) ∙ fold-roll-MemberDeclarator (Numbered DeclaratorForm) (Numbered ExprForm) (Numbered MemberDeclarator) (Numbered Specifier) (Numbered Declarator) (Numbered Expr) (Numbered Item) (Numbered Member) (Numbered Parameter) (Numbered TypeName) in_declarator in_expr of_member_declarator of_specifier of_declarator of_expr of_item of_member of_parameter of_type_name (MemberDeclarator-F.Unnamed a))

pub specifier-Storage : (word : Storage) (n : ℕ) → (specifier (s.Storage word) n).1 ≡ n
unfolding expr declarator specifier
specifier-Storage word n = ap (λ f. (f n).1) (ap specifier (sym (s.rolls-Storage word)) ∙ fold-roll-Specifier (Numbered DeclaratorForm) (Numbered ExprForm) (Numbered MemberDeclarator) (Numbered Specifier) (Numbered Declarator) (Numbered Expr) (Numbered Item) (Numbered Member) (Numbered Parameter) (Numbered TypeName) in_declarator in_expr of_member_declarator of_specifier of_declarator of_expr of_item of_member of_parameter of_type_name (Specifier-F.Storage word))

pub specifier-Inline : (n : ℕ) → (specifier s.Inline n).1 ≡ n
unfolding expr declarator specifier
specifier-Inline n = ap (λ f. (f n).1) (ap specifier (sym s.rolls-Inline) ∙ fold-roll-Specifier (Numbered DeclaratorForm) (Numbered ExprForm) (Numbered MemberDeclarator) (Numbered Specifier) (Numbered Declarator) (Numbered Expr) (Numbered Item) (Numbered Member) (Numbered Parameter) (Numbered TypeName) in_declarator in_expr of_member_declarator of_specifier of_declarator of_expr of_item of_member of_parameter of_type_name Specifier-F.Inline)

pub specifier-Qualifier : (word : Qualifier) (n : ℕ) → (specifier (s.Qualifier word) n).1 ≡ n
unfolding expr declarator specifier
specifier-Qualifier word n = ap (λ f. (f n).1) (ap specifier (sym (s.rolls-Qualifier word)) ∙ fold-roll-Specifier (Numbered DeclaratorForm) (Numbered ExprForm) (Numbered MemberDeclarator) (Numbered Specifier) (Numbered Declarator) (Numbered Expr) (Numbered Item) (Numbered Member) (Numbered Parameter) (Numbered TypeName) in_declarator in_expr of_member_declarator of_specifier of_declarator of_expr of_item of_member of_parameter of_type_name (Specifier-F.Qualifier word))

pub specifier-Type : (word : TypeWord) (n : ℕ) → (specifier (s.Type word) n).1 ≡ n
unfolding expr declarator specifier
specifier-Type word n = ap (λ f. (f n).1) (ap specifier (sym (s.rolls-Type word)) ∙ fold-roll-Specifier (Numbered DeclaratorForm) (Numbered ExprForm) (Numbered MemberDeclarator) (Numbered Specifier) (Numbered Declarator) (Numbered Expr) (Numbered Item) (Numbered Member) (Numbered Parameter) (Numbered TypeName) in_declarator in_expr of_member_declarator of_specifier of_declarator of_expr of_item of_member of_parameter of_type_name (Specifier-F.Type word))

pub specifier-Struct : (tag : Option (List ℕ)) (xs : List Member) (n : ℕ) → (specifier (s.Struct tag xs) n).1 ≡ (list (map member xs) n).1
unfolding expr declarator specifier
specifier-Struct tag xs n = ap (λ f. (f n).1) (ap specifier (sym (s.rolls-Struct tag xs)) ∙ fold-roll-Specifier (Numbered DeclaratorForm) (Numbered ExprForm) (Numbered MemberDeclarator) (Numbered Specifier) (Numbered Declarator) (Numbered Expr) (Numbered Item) (Numbered Member) (Numbered Parameter) (Numbered TypeName) in_declarator in_expr of_member_declarator of_specifier of_declarator of_expr of_item of_member of_parameter of_type_name (Specifier-F.Struct tag xs))

pub specifier-StructTag : (tag : List ℕ) (n : ℕ) → (specifier (s.StructTag tag) n).1 ≡ n
unfolding expr declarator specifier
specifier-StructTag tag n = ap (λ f. (f n).1) (ap specifier (sym (s.rolls-StructTag tag)) ∙ fold-roll-Specifier (Numbered DeclaratorForm) (Numbered ExprForm) (Numbered MemberDeclarator) (Numbered Specifier) (Numbered Declarator) (Numbered Expr) (Numbered Item) (Numbered Member) (Numbered Parameter) (Numbered TypeName) in_declarator in_expr of_member_declarator of_specifier of_declarator of_expr of_item of_member of_parameter of_type_name (Specifier-F.StructTag tag))

pub specifier-Enum : (tag : Option (List ℕ)) (xs : List Item) (n : ℕ) → (specifier (s.Enum tag xs) n).1 ≡ (list (map item xs) n).1
unfolding expr declarator specifier
specifier-Enum tag xs n = ap (λ f. (f n).1) (ap specifier (sym (s.rolls-Enum tag xs)) ∙ fold-roll-Specifier (Numbered DeclaratorForm) (Numbered ExprForm) (Numbered MemberDeclarator) (Numbered Specifier) (Numbered Declarator) (Numbered Expr) (Numbered Item) (Numbered Member) (Numbered Parameter) (Numbered TypeName) in_declarator in_expr of_member_declarator of_specifier of_declarator of_expr of_item of_member of_parameter of_type_name (Specifier-F.Enum tag xs))

pub specifier-EnumTag : (tag : List ℕ) (n : ℕ) → (specifier (s.EnumTag tag) n).1 ≡ n
unfolding expr declarator specifier
specifier-EnumTag tag n = ap (λ f. (f n).1) (ap specifier (sym (s.rolls-EnumTag tag)) ∙ fold-roll-Specifier (Numbered DeclaratorForm) (Numbered ExprForm) (Numbered MemberDeclarator) (Numbered Specifier) (Numbered Declarator) (Numbered Expr) (Numbered Item) (Numbered Member) (Numbered Parameter) (Numbered TypeName) in_declarator in_expr of_member_declarator of_specifier of_declarator of_expr of_item of_member of_parameter of_type_name (Specifier-F.EnumTag tag))

pub specifier-Typedef : (name : List ℕ) (n : ℕ) → (specifier (s.Typedef name) n).1 ≡ n
unfolding expr declarator specifier
specifier-Typedef name n = ap (λ f. (f n).1) (ap specifier (sym (s.rolls-Typedef name)) ∙ fold-roll-Specifier (Numbered DeclaratorForm) (Numbered ExprForm) (Numbered MemberDeclarator) (Numbered Specifier) (Numbered Declarator) (Numbered Expr) (Numbered Item) (Numbered Member) (Numbered Parameter) (Numbered TypeName) in_declarator in_expr of_member_declarator of_specifier of_declarator of_expr of_item of_member of_parameter of_type_name (Specifier-F.Typedef name))

pub node-TypeName : (spot : Spot) (xs : List Specifier) (inner : Option Declarator) (n : ℕ)
    → (type_name (roll-TypeName (record { spot = spot; ordinal = 0; specifiers = xs; declarator = inner })) n).1 ≡ (optional (option_map declarator inner) (list (map specifier xs) (n + 1)).1).1
unfolding expr declarator specifier
node-TypeName spot xs None n = ap (λ f. (f n).1) (fold-roll-TypeName (Numbered DeclaratorForm) (Numbered ExprForm) (Numbered MemberDeclarator) (Numbered Specifier) (Numbered Declarator) (Numbered Expr) (Numbered Item) (Numbered Member) (Numbered Parameter) (Numbered TypeName) in_declarator in_expr of_member_declarator of_specifier of_declarator of_expr of_item of_member of_parameter of_type_name (record { spot = spot; ordinal = 0; specifiers = xs; declarator = None }))
node-TypeName spot xs (Some inner) n = ap (λ f. (f n).1) (fold-roll-TypeName (Numbered DeclaratorForm) (Numbered ExprForm) (Numbered MemberDeclarator) (Numbered Specifier) (Numbered Declarator) (Numbered Expr) (Numbered Item) (Numbered Member) (Numbered Parameter) (Numbered TypeName) in_declarator in_expr of_member_declarator of_specifier of_declarator of_expr of_item of_member of_parameter of_type_name (record { spot = spot; ordinal = 0; specifiers = xs; declarator = Some inner }))

pub node-Parameter : (spot : Spot) (xs : List Specifier) (inner : Option Declarator) (n : ℕ)
    → (parameter (roll-Parameter (record { spot = spot; ordinal = 0; specifiers = xs; declarator = inner })) n).1 ≡ (optional (option_map declarator inner) (list (map specifier xs) (n + 1)).1).1
unfolding expr declarator specifier
node-Parameter spot xs None n = ap (λ f. (f n).1) (fold-roll-Parameter (Numbered DeclaratorForm) (Numbered ExprForm) (Numbered MemberDeclarator) (Numbered Specifier) (Numbered Declarator) (Numbered Expr) (Numbered Item) (Numbered Member) (Numbered Parameter) (Numbered TypeName) in_declarator in_expr of_member_declarator of_specifier of_declarator of_expr of_item of_member of_parameter of_type_name (record { spot = spot; ordinal = 0; specifiers = xs; declarator = None }))
node-Parameter spot xs (Some inner) n = ap (λ f. (f n).1) (fold-roll-Parameter (Numbered DeclaratorForm) (Numbered ExprForm) (Numbered MemberDeclarator) (Numbered Specifier) (Numbered Declarator) (Numbered Expr) (Numbered Item) (Numbered Member) (Numbered Parameter) (Numbered TypeName) in_declarator in_expr of_member_declarator of_specifier of_declarator of_expr of_item of_member of_parameter of_type_name (record { spot = spot; ordinal = 0; specifiers = xs; declarator = Some inner }))

pub node-Item : (spot : Spot) (name : List ℕ) (value : Option Expr) (n : ℕ)
    → (item (roll-Item (record { spot = spot; ordinal = 0; name = name; value = value })) n).1 ≡ (optional (option_map expr value) (n + 1)).1
unfolding expr declarator specifier
node-Item spot name None n = ap (λ f. (f n).1) (fold-roll-Item (Numbered DeclaratorForm) (Numbered ExprForm) (Numbered MemberDeclarator) (Numbered Specifier) (Numbered Declarator) (Numbered Expr) (Numbered Item) (Numbered Member) (Numbered Parameter) (Numbered TypeName) in_declarator in_expr of_member_declarator of_specifier of_declarator of_expr of_item of_member of_parameter of_type_name (record { spot = spot; ordinal = 0; name = name; value = None }))
node-Item spot name (Some value) n = ap (λ f. (f n).1) (fold-roll-Item (Numbered DeclaratorForm) (Numbered ExprForm) (Numbered MemberDeclarator) (Numbered Specifier) (Numbered Declarator) (Numbered Expr) (Numbered Item) (Numbered Member) (Numbered Parameter) (Numbered TypeName) in_declarator in_expr of_member_declarator of_specifier of_declarator of_expr of_item of_member of_parameter of_type_name (record { spot = spot; ordinal = 0; name = name; value = Some value }))

pub node-Member : (spot : Spot) (xs : List Specifier) (ys : List MemberDeclarator) (n : ℕ)
    → (member (record { spot = spot; ordinal = 0; specifiers = xs; declarators = ys }) n).1 ≡ (list (map member_declarator ys) (list (map specifier xs) (n + 1)).1).1
unfolding expr declarator specifier
node-Member spot xs ys n = ap (λ f. (f n).1) (fold-roll-Member (Numbered DeclaratorForm) (Numbered ExprForm) (Numbered MemberDeclarator) (Numbered Specifier) (Numbered Declarator) (Numbered Expr) (Numbered Item) (Numbered Member) (Numbered Parameter) (Numbered TypeName) in_declarator in_expr of_member_declarator of_specifier of_declarator of_expr of_item of_member of_parameter of_type_name (record { spot = spot; ordinal = 0; specifiers = xs; declarators = ys }))

pub node-Expr : (spot : Spot) (form : ExprForm) (n : ℕ)
    → (expr (record { spot = spot; ordinal = 0; form = form }) n).1 ≡ (expr_form form (n + 1)).1
unfolding expr declarator specifier
node-Expr spot form n = ap (λ f. (f n).1) (fold-roll-Expr (Numbered DeclaratorForm) (Numbered ExprForm) (Numbered MemberDeclarator) (Numbered Specifier) (Numbered Declarator) (Numbered Expr) (Numbered Item) (Numbered Member) (Numbered Parameter) (Numbered TypeName) in_declarator in_expr of_member_declarator of_specifier of_declarator of_expr of_item of_member of_parameter of_type_name (record { spot = spot; ordinal = 0; form = form }))

pub node-Declarator : (spot : Spot) (form : DeclaratorForm) (n : ℕ)
    → (declarator (record { spot = spot; ordinal = 0; form = form }) n).1 ≡ (declarator_form form (n + 1)).1
unfolding expr declarator specifier
node-Declarator spot form n = ap (λ f. (f n).1) (fold-roll-Declarator (Numbered DeclaratorForm) (Numbered ExprForm) (Numbered MemberDeclarator) (Numbered Specifier) (Numbered Declarator) (Numbered Expr) (Numbered Item) (Numbered Member) (Numbered Parameter) (Numbered TypeName) in_declarator in_expr of_member_declarator of_specifier of_declarator of_expr of_item of_member of_parameter of_type_name (record { spot = spot; ordinal = 0; form = form }))

pub init-Expr : (a : Expr) (n : ℕ) → (initialiser (init.Expr a) n).1 ≡ (expr a n).1
unfolding initialiser
init-Expr a n = ap (λ f. (f n).1) (ap initialiser (sym (init.rolls-Expr a)) ∙ fold-roll-Init (Numbered Init) (Numbered Entry) (Numbered InitList) of_init of_entry of_list (Init-F.Expr a))

pub init-List : (xs : InitList) (n : ℕ) → (initialiser (init.List xs) n).1 ≡ (init_list xs n).1
unfolding initialiser
init-List xs n = ap (λ f. (f n).1) (ap initialiser (sym (init.rolls-List xs)) ∙ fold-roll-Init (Numbered Init) (Numbered Entry) (Numbered InitList) of_init of_entry of_list (Init-F.List xs))

pub node-InitList : (spot : Spot) (xs : List Entry) (n : ℕ)
    → (init_list (roll-InitList (record { spot = spot; ordinal = 0; entries = xs })) n).1 ≡ (list (map entry xs) (n + 1)).1
unfolding initialiser
node-InitList spot xs n = ap (λ f. (f n).1) (fold-roll-InitList (Numbered Init) (Numbered Entry) (Numbered InitList) of_init of_entry of_list (record { spot = spot; ordinal = 0; entries = xs }))

pub node-Entry : (xs : List Designator) (value : Init) (n : ℕ)
    → (entry (record { designators = xs; init = value }) n).1 ≡ (initialiser value (list_of of_designator xs n).1).1
unfolding initialiser
node-Entry xs value n = ap (λ f. (f n).1) (fold-roll-Entry (Numbered Init) (Numbered Entry) (Numbered InitList) of_init of_entry of_list (record { designators = xs; init = value }))

pub stmt-Label : (name : List ℕ) (inner : Stmt) (n : ℕ) → (stmt_form (stmt.Label name inner) n).1 ≡ (statement inner n).1
unfolding statement
stmt-Label name inner n = ap (λ f. (f n).1) (ap stmt_form (sym (stmt.rolls-Label name inner)) ∙ fold-roll-StmtForm (Numbered BlockItem) (Numbered StmtForm) (Numbered Stmt) of_block_item in_stmt of_stmt (StmtForm-F.Label name inner))

pub stmt-Case : (a : Expr) (inner : Stmt) (n : ℕ) → (stmt_form (stmt.Case a inner) n).1 ≡ (statement inner (expr a n).1).1
unfolding statement
stmt-Case a inner n = ap (λ f. (f n).1) (ap stmt_form (sym (stmt.rolls-Case a inner)) ∙ fold-roll-StmtForm (Numbered BlockItem) (Numbered StmtForm) (Numbered Stmt) of_block_item in_stmt of_stmt (StmtForm-F.Case a inner))

pub stmt-Default : (inner : Stmt) (n : ℕ) → (stmt_form (stmt.Default inner) n).1 ≡ (statement inner n).1
unfolding statement
stmt-Default inner n = ap (λ f. (f n).1) (ap stmt_form (sym (stmt.rolls-Default inner)) ∙ fold-roll-StmtForm (Numbered BlockItem) (Numbered StmtForm) (Numbered Stmt) of_block_item in_stmt of_stmt (StmtForm-F.Default inner))

pub stmt-Block : (xs : List BlockItem) (n : ℕ) → (stmt_form (stmt.Block xs) n).1 ≡ (list (map block_item xs) n).1
unfolding statement
stmt-Block xs n = ap (λ f. (f n).1) (ap stmt_form (sym (stmt.rolls-Block xs)) ∙ fold-roll-StmtForm (Numbered BlockItem) (Numbered StmtForm) (Numbered Stmt) of_block_item in_stmt of_stmt (StmtForm-F.Block xs))

pub stmt-Do : (a : Option Expr) (n : ℕ) → (stmt_form (stmt.Do a) n).1 ≡ (optional_of expr a n).1
unfolding statement
stmt-Do a n = ap (λ f. (f n).1) (ap stmt_form (sym (stmt.rolls-Do a)) ∙ fold-roll-StmtForm (Numbered BlockItem) (Numbered StmtForm) (Numbered Stmt) of_block_item in_stmt of_stmt (StmtForm-F.Do a))

pub stmt-If : (a : Expr) (taken : Stmt) (other : Option Stmt) (n : ℕ) → (stmt_form (stmt.If a taken other) n).1 ≡ (optional (option_map statement other) (statement taken (expr a n).1).1).1
unfolding statement
stmt-If a taken None n = ap (λ f. (f n).1) (ap stmt_form (sym (stmt.rolls-If a taken None)) ∙ fold-roll-StmtForm (Numbered BlockItem) (Numbered StmtForm) (Numbered Stmt) of_block_item in_stmt of_stmt (StmtForm-F.If a taken None))
stmt-If a taken (Some other) n = ap (λ f. (f n).1) (ap stmt_form (sym (stmt.rolls-If a taken (Some other))) ∙ fold-roll-StmtForm (Numbered BlockItem) (Numbered StmtForm) (Numbered Stmt) of_block_item in_stmt of_stmt (StmtForm-F.If a taken (Some other)))

pub stmt-Switch : (a : Expr) (inner : Stmt) (n : ℕ) → (stmt_form (stmt.Switch a inner) n).1 ≡ (statement inner (expr a n).1).1
unfolding statement
stmt-Switch a inner n = ap (λ f. (f n).1) (ap stmt_form (sym (stmt.rolls-Switch a inner)) ∙ fold-roll-StmtForm (Numbered BlockItem) (Numbered StmtForm) (Numbered Stmt) of_block_item in_stmt of_stmt (StmtForm-F.Switch a inner))

pub stmt-While : (a : Expr) (inner : Stmt) (n : ℕ) → (stmt_form (stmt.While a inner) n).1 ≡ (statement inner (expr a n).1).1
unfolding statement
stmt-While a inner n = ap (λ f. (f n).1) (ap stmt_form (sym (stmt.rolls-While a inner)) ∙ fold-roll-StmtForm (Numbered BlockItem) (Numbered StmtForm) (Numbered Stmt) of_block_item in_stmt of_stmt (StmtForm-F.While a inner))

pub stmt-Until : (inner : Stmt) (a : Expr) (n : ℕ) → (stmt_form (stmt.Until inner a) n).1 ≡ (expr a (statement inner n).1).1
unfolding statement
stmt-Until inner a n = ap (λ f. (f n).1) (ap stmt_form (sym (stmt.rolls-Until inner a)) ∙ fold-roll-StmtForm (Numbered BlockItem) (Numbered StmtForm) (Numbered Stmt) of_block_item in_stmt of_stmt (StmtForm-F.Until inner a))

pub stmt-For : (start : ForFirst) (a : Option Expr) (b : Option Expr) (inner : Stmt) (n : ℕ) → (stmt_form (stmt.For start a b inner) n).1 ≡ (statement inner (optional_of expr b (optional_of expr a (of_first start n).1).1).1).1
unfolding statement
stmt-For start a b inner n = ap (λ f. (f n).1) (ap stmt_form (sym (stmt.rolls-For start a b inner)) ∙ fold-roll-StmtForm (Numbered BlockItem) (Numbered StmtForm) (Numbered Stmt) of_block_item in_stmt of_stmt (StmtForm-F.For start a b inner))

pub stmt-Goto : (name : List ℕ) (n : ℕ) → (stmt_form (stmt.Goto name) n).1 ≡ n
unfolding statement
stmt-Goto name n = ap (λ f. (f n).1) (ap stmt_form (sym (stmt.rolls-Goto name)) ∙ fold-roll-StmtForm (Numbered BlockItem) (Numbered StmtForm) (Numbered Stmt) of_block_item in_stmt of_stmt (StmtForm-F.Goto name))

pub stmt-Continue : (n : ℕ) → (stmt_form stmt.Continue n).1 ≡ n
unfolding statement
stmt-Continue n = ap (λ f. (f n).1) (ap stmt_form (sym stmt.rolls-Continue) ∙ fold-roll-StmtForm (Numbered BlockItem) (Numbered StmtForm) (Numbered Stmt) of_block_item in_stmt of_stmt StmtForm-F.Continue)

pub stmt-Break : (n : ℕ) → (stmt_form stmt.Break n).1 ≡ n
unfolding statement
stmt-Break n = ap (λ f. (f n).1) (ap stmt_form (sym stmt.rolls-Break) ∙ fold-roll-StmtForm (Numbered BlockItem) (Numbered StmtForm) (Numbered Stmt) of_block_item in_stmt of_stmt StmtForm-F.Break)

pub stmt-Return : (a : Option Expr) (n : ℕ) → (stmt_form (stmt.Return a) n).1 ≡ (optional_of expr a n).1
unfolding statement
stmt-Return a n = ap (λ f. (f n).1) (ap stmt_form (sym (stmt.rolls-Return a)) ∙ fold-roll-StmtForm (Numbered BlockItem) (Numbered StmtForm) (Numbered Stmt) of_block_item in_stmt of_stmt (StmtForm-F.Return a))

pub item-Declare : (a : Declare) (n : ℕ) → (block_item (item.Declare a) n).1 ≡ (declare a n).1
unfolding statement
item-Declare a n = ap (λ f. (f n).1) (ap block_item (sym (item.rolls-Declare a)) ∙ fold-roll-BlockItem (Numbered BlockItem) (Numbered StmtForm) (Numbered Stmt) of_block_item in_stmt of_stmt (BlockItem-F.Declare a))

pub item-Stmt : (inner : Stmt) (n : ℕ) → (block_item (item.Stmt inner) n).1 ≡ (statement inner n).1
unfolding statement
item-Stmt inner n = ap (λ f. (f n).1) (ap block_item (sym (item.rolls-Stmt inner)) ∙ fold-roll-BlockItem (Numbered BlockItem) (Numbered StmtForm) (Numbered Stmt) of_block_item in_stmt of_stmt (BlockItem-F.Stmt inner))

pub node-Stmt : (spot : Spot) (form : StmtForm) (n : ℕ)
    → (statement (record { spot = spot; ordinal = 0; form = form }) n).1 ≡ (stmt_form form (n + 1)).1
unfolding statement
node-Stmt spot form n = ap (λ f. (f n).1) (fold-roll-Stmt (Numbered BlockItem) (Numbered StmtForm) (Numbered Stmt) of_block_item in_stmt of_stmt (record { spot = spot; ordinal = 0; form = form }))
