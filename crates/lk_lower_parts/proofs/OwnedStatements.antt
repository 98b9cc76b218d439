-- What the nodes of each form of statement have of their own, as equations of the fold over typed trees.
use Rattle.std.proofs.Common.{sym, ap, ◌∙◌, ◌≡◌, ◌++◌, ℕ, List, Option, None, Some}
use Rattle.std.specs.Prelude.{map, []}
use Rattle.std.specs.Option.{option_map}
use Rattle.lk_lower_expr.specs.Owned.{Owned, all_of, of_optional, owned, owned_in, of_first, of_inits, owned_by, in_item, in_form, in_stmt}
use Rattle.lk_lower_parts.specs.Found.{form_owned, item_owned}
use Rattle.lk_typed.specs.declared.expression.TypedExpr.{TypedExpr}
use Rattle.lk_typed.specs.declared.statement.LocalInit.{LocalInit}
use Rattle.lk_typed.specs.declared.statement.SwitchCase.{SwitchCase}
use Rattle.lk_typed.specs.declared.statement.TypedFirst.{TypedFirst}
use Rattle.lk_typed.specs.declared.statement.TypedItem.{TypedItem}
use Rattle.lk_typed.specs.declared.statement.TypedItem.TheFolds.{fold-roll-TypedItem, fold-roll-TypedStmtForm, fold_out-TypedStmt}
use Rattle.lk_typed.specs.declared.statement.TypedItem.TheOpen.{TypedItem-F, TypedStmtForm-F}
use Rattle.lk_typed.specs.declared.statement.TypedItem.TheVariants as item
use Rattle.lk_typed.specs.declared.statement.TypedStmt.{TypedStmt}
use Rattle.lk_typed.specs.declared.statement.TypedStmtForm.{TypedStmtForm}
use Rattle.lk_typed.specs.declared.statement.TypedStmtForm.TheVariants as stmt
use Rattle.lk_types.specs.declared.c_type.CType.{CType}

module _ (form : ℕ → CType) where
  of_statement : (s : TypedStmt) → owned_by form s ≡ form_owned form s.form
  unfolding owned_by form_owned
  of_statement s = fold_out-TypedStmt (List Owned) (List Owned) (List Owned) (in_item form) (in_form form) (in_stmt form) s

  -- a statement of a form has what is of that form
  pub as_form : (s : TypedStmt) (f : TypedStmtForm) (is : List Owned) → s.form ≡ f → form_owned form f ≡ is → owned_by form s ≡ is
  as_form s f is so rolls = of_statement s ∙ ap (form_owned form) so ∙ rolls

  pub of_Label : (a : TypedStmt) → form_owned form (stmt.Label a) ≡ owned_by form a
  unfolding owned_by form_owned item_owned
  of_Label a = ap (form_owned form) (sym (stmt.rolls-Label a)) ∙ fold-roll-TypedStmtForm (List Owned) (List Owned) (List Owned) (in_item form) (in_form form) (in_stmt form) (TypedStmtForm-F.Label a)

  pub of_Case : (a : TypedStmt) → form_owned form (stmt.Case a) ≡ owned_by form a
  unfolding owned_by form_owned item_owned
  of_Case a = ap (form_owned form) (sym (stmt.rolls-Case a)) ∙ fold-roll-TypedStmtForm (List Owned) (List Owned) (List Owned) (in_item form) (in_form form) (in_stmt form) (TypedStmtForm-F.Case a)

  pub of_Default : (a : TypedStmt) → form_owned form (stmt.Default a) ≡ owned_by form a
  unfolding owned_by form_owned item_owned
  of_Default a = ap (form_owned form) (sym (stmt.rolls-Default a)) ∙ fold-roll-TypedStmtForm (List Owned) (List Owned) (List Owned) (in_item form) (in_form form) (in_stmt form) (TypedStmtForm-F.Default a)

  pub of_Block : (items : List TypedItem) → form_owned form (stmt.Block items) ≡ all_of (map (item_owned form) items)
  unfolding owned_by form_owned item_owned
  of_Block items = ap (form_owned form) (sym (stmt.rolls-Block items)) ∙ fold-roll-TypedStmtForm (List Owned) (List Owned) (List Owned) (in_item form) (in_form form) (in_stmt form) (TypedStmtForm-F.Block items)

  pub of_Do : (e : Option TypedExpr) → form_owned form (stmt.Do e) ≡ owned_in form e
  unfolding owned_by form_owned item_owned
  of_Do e = ap (form_owned form) (sym (stmt.rolls-Do e)) ∙ fold-roll-TypedStmtForm (List Owned) (List Owned) (List Owned) (in_item form) (in_form form) (in_stmt form) (TypedStmtForm-F.Do e)

  pub of_If : (c : TypedExpr) (a : TypedStmt) (b : Option TypedStmt) → form_owned form (stmt.If c a b) ≡ owned form c ++ (owned_by form a ++ of_optional (option_map (owned_by form) b))
  unfolding owned_by form_owned item_owned
  of_If c a None = ap (form_owned form) (sym (stmt.rolls-If c a None)) ∙ fold-roll-TypedStmtForm (List Owned) (List Owned) (List Owned) (in_item form) (in_form form) (in_stmt form) (TypedStmtForm-F.If c a None)
  of_If c a (Some b) = ap (form_owned form) (sym (stmt.rolls-If c a (Some b))) ∙ fold-roll-TypedStmtForm (List Owned) (List Owned) (List Owned) (in_item form) (in_form form) (in_stmt form) (TypedStmtForm-F.If c a (Some b))

  pub of_Switch : (v : TypedExpr) (cases : List SwitchCase) (default : Option ℕ) (a : TypedStmt) → form_owned form (stmt.Switch v cases default a) ≡ owned form v ++ owned_by form a
  unfolding owned_by form_owned item_owned
  of_Switch v cases default a = ap (form_owned form) (sym (stmt.rolls-Switch v cases default a)) ∙ fold-roll-TypedStmtForm (List Owned) (List Owned) (List Owned) (in_item form) (in_form form) (in_stmt form) (TypedStmtForm-F.Switch v cases default a)

  pub of_While : (c : TypedExpr) (a : TypedStmt) → form_owned form (stmt.While c a) ≡ owned form c ++ owned_by form a
  unfolding owned_by form_owned item_owned
  of_While c a = ap (form_owned form) (sym (stmt.rolls-While c a)) ∙ fold-roll-TypedStmtForm (List Owned) (List Owned) (List Owned) (in_item form) (in_form form) (in_stmt form) (TypedStmtForm-F.While c a)

  pub of_Until : (a : TypedStmt) (c : TypedExpr) → form_owned form (stmt.Until a c) ≡ owned_by form a ++ owned form c
  unfolding owned_by form_owned item_owned
  of_Until a c = ap (form_owned form) (sym (stmt.rolls-Until a c)) ∙ fold-roll-TypedStmtForm (List Owned) (List Owned) (List Owned) (in_item form) (in_form form) (in_stmt form) (TypedStmtForm-F.Until a c)

  pub of_For : (f : TypedFirst) (c : Option TypedExpr) (s : Option TypedExpr) (a : TypedStmt) → form_owned form (stmt.For f c s a) ≡ of_first form f ++ (owned_in form c ++ (owned_in form s ++ owned_by form a))
  unfolding owned_by form_owned item_owned
  of_For f c s a = ap (form_owned form) (sym (stmt.rolls-For f c s a)) ∙ fold-roll-TypedStmtForm (List Owned) (List Owned) (List Owned) (in_item form) (in_form form) (in_stmt form) (TypedStmtForm-F.For f c s a)

  pub of_Goto : (label : ℕ) → form_owned form (stmt.Goto label) ≡ []
  unfolding owned_by form_owned item_owned
  of_Goto label = ap (form_owned form) (sym (stmt.rolls-Goto label)) ∙ fold-roll-TypedStmtForm (List Owned) (List Owned) (List Owned) (in_item form) (in_form form) (in_stmt form) (TypedStmtForm-F.Goto label)

  pub of_Continue : form_owned form stmt.Continue ≡ []
  unfolding owned_by form_owned item_owned
  of_Continue = ap (form_owned form) (sym stmt.rolls-Continue) ∙ fold-roll-TypedStmtForm (List Owned) (List Owned) (List Owned) (in_item form) (in_form form) (in_stmt form) TypedStmtForm-F.Continue

  pub of_Break : form_owned form stmt.Break ≡ []
  unfolding owned_by form_owned item_owned
  of_Break = ap (form_owned form) (sym stmt.rolls-Break) ∙ fold-roll-TypedStmtForm (List Owned) (List Owned) (List Owned) (in_item form) (in_form form) (in_stmt form) TypedStmtForm-F.Break

  pub of_Return : (e : Option TypedExpr) → form_owned form (stmt.Return e) ≡ owned_in form e
  unfolding owned_by form_owned item_owned
  of_Return e = ap (form_owned form) (sym (stmt.rolls-Return e)) ∙ fold-roll-TypedStmtForm (List Owned) (List Owned) (List Owned) (in_item form) (in_form form) (in_stmt form) (TypedStmtForm-F.Return e)

  pub of_item_Declare : (i : TypedItem) (list : List LocalInit) → i ≡ item.Declare list → item_owned form i ≡ of_inits form list
  unfolding owned_by form_owned item_owned
  of_item_Declare i list is = ap (item_owned form) (is ∙ sym (item.rolls-Declare list)) ∙ fold-roll-TypedItem (List Owned) (List Owned) (List Owned) (in_item form) (in_form form) (in_stmt form) (TypedItem-F.Declare list)

  pub of_item_Stmt : (i : TypedItem) (a : TypedStmt) → i ≡ item.Stmt a → item_owned form i ≡ owned_by form a
  unfolding owned_by form_owned item_owned
  of_item_Stmt i a is = ap (item_owned form) (is ∙ sym (item.rolls-Stmt a)) ∙ fold-roll-TypedItem (List Owned) (List Owned) (List Owned) (in_item form) (in_form form) (in_stmt form) (TypedItem-F.Stmt a)
