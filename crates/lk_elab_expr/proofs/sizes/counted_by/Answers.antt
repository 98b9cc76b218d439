use Rattle.std.proofs.Common.{◌∙◌, inl, refl, sym, ap, subst}
use Rattle.lk_tree.specs.declared.expression.DeclaratorForm.TheOpen.{ExprForm-F}
use Rattle.lk_tree.specs.declared.expression.Expr.{Expr}
use Rattle.lk_tree.specs.declared.expression.ExprForm.TheVariants as tree
use Rattle.lk_tree.specs.declared.expression.TypeName.{TypeName, out-TypeName}
use Rattle.lk_typed.specs.Elaborated.{InPlace, IsSizeof}
use Rattle.lk_typed.specs.Elaborated.IsSizeof.{of_expression, of_type}
use Rattle.lk_typed.specs.Env.{Env, as_operand}
use Rattle.lk_typed.specs.Nodes.{ATypeName, at as node_at}
use Rattle.lk_elab_expr.proofs.FormsAt.{form_at}
use Rattle.lk_elab_expr.proofs.Within.{expression_at, told_by, told_name, told_of}
use Rattle.lk_elab_expr.proofs.sizes.counted_by.Goals as goal

pub returns-in_ok-typing-in-SizeofExpr : goal.returns-in_ok-typing-in-SizeofExpr
returns-in_ok-typing-in-SizeofExpr c = λ at_end p at_p told.
    let x = c.in-SizeofExpr.operand in
    let i : InPlace = (as_operand p.0, x) in
    let form = form_at p (tree.SizeofExpr x) (ExprForm-F.SizeofExpr x) (ap (λ (e : Expr). e.form) at_p ∙ c.in-SizeofExpr.is) (tree.rolls-SizeofExpr x) in
    let true_of = told_of at_end c.args.walk.now i (told_by at_end c.args.walk.now p told (ExprForm-F.SizeofExpr i) (expression_at i) form (inl refl)) in
    let has = c.in_ok-typing-in-SizeofExpr.ensures.typing i (ap (λ (e : Expr). e.ordinal) (sym c.get.ensures)) true_of in
    subst (IsSizeof p) (sym has.is.type) (of_expression form has.found)

pub returns-in_ok-t-in-SizeofType : goal.returns-in_ok-t-in-SizeofType
returns-in_ok-t-in-SizeofType c = λ at_end p at_p told.
    let x = c.in-SizeofType.named in
    let n : Env × TypeName = (as_operand p.0, x) in
    let form = form_at p (tree.SizeofType x) (ExprForm-F.SizeofType x) (ap (λ (e : Expr). e.form) at_p ∙ c.in-SizeofType.is) (tree.rolls-SizeofType x) in
    let named = told_name at_end c.args.walk.now n (told_by at_end c.args.walk.now p told (ExprForm-F.SizeofType n) (node_at n.0 (ATypeName n.1)) form (inl refl)) in
    of_type form (c.in_ok-t-in-SizeofType.ensures.named n (ap (λ t. (out-TypeName t).ordinal) (sym c.get-in-SizeofType.ensures)) named)
