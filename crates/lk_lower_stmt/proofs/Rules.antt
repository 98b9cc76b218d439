-- The steps of each form of statement, as equations of the fold over typed trees.
use Rattle.std.proofs.Common.{sym, ap, ◌∙◌, ◌≡◌, ℕ, List, Option, None, Some}
use Rattle.std.specs.Prelude.{map}
use Rattle.std.specs.Option.{option_map}
use Rattle.lk_base.specs.declared.cell.CellStep.{CellStep}
use Rattle.lk_base.specs.declared.spot.Spot.{Spot}
use Rattle.lk_facts.specs.declared.place.Place.{Place}
use Rattle.lk_lower_expr.specs.Expressions.{part}
use Rattle.lk_lower_expr.specs.Names.{Names}
use Rattle.lk_lower_expr.specs.Statements as rules
use Rattle.lk_lower_expr.specs.Statements.{Flow, flow, form_flow, item_flow, of_item, of_form, of_stmt}
use Rattle.lk_typed.specs.declared.expression.TypedExpr.{TypedExpr}
use Rattle.lk_typed.specs.declared.statement.LocalInit.{LocalInit}
use Rattle.lk_typed.specs.declared.statement.SwitchCase.{SwitchCase}
use Rattle.lk_typed.specs.declared.statement.TypedFirst.{TypedFirst}
use Rattle.lk_typed.specs.declared.statement.TypedItem.{TypedItem}
use Rattle.lk_typed.specs.declared.statement.TypedItem.TheFolds.{fold-roll-TypedItem, fold-roll-TypedStmtForm, fold_out-TypedStmt}
use Rattle.lk_typed.specs.declared.statement.TypedItem.TheOpen.{TypedItem-F, TypedStmtForm-F}
use Rattle.lk_typed.specs.declared.statement.TypedItem.TheVariants as item
use Rattle.lk_typed.specs.declared.statement.TypedStmt.{TypedStmt}
use Rattle.lk_typed.specs.declared.statement.TypedStmtForm.{TypedStmtForm}
use Rattle.lk_typed.specs.declared.statement.TypedStmtForm.TheVariants as form

module _ (names : Names) (place : ℕ → List CellStep → Place) where
  abbrev FormFlow : Type 0
  FormFlow = ℕ → Spot → Flow

  of_statement : (s : TypedStmt) → flow names place s ≡ form_flow names place s.form s.ordinal s.spot
  unfolding flow form_flow
  of_statement s = fold_out-TypedStmt Flow FormFlow Flow (of_item names place) (of_form names place) (of_stmt names place) s

  -- a statement of a form has the steps of that form
  pub as_form : (s : TypedStmt) (f : TypedStmtForm) (is : FormFlow) → s.form ≡ f → form_flow names place f ≡ is → flow names place s ≡ is s.ordinal s.spot
  as_form s f is so rolls = of_statement s ∙ ap (λ g. form_flow names place g s.ordinal s.spot) so ∙ ap (λ (g : FormFlow). g s.ordinal s.spot) rolls

  pub of_Label : (a : TypedStmt) → form_flow names place (form.Label a) ≡ (λ o spot. rules.label_flow names o spot (flow names place a))
  unfolding flow form_flow item_flow
  of_Label a = ap (form_flow names place) (sym (form.rolls-Label a)) ∙ fold-roll-TypedStmtForm Flow FormFlow Flow (of_item names place) (of_form names place) (of_stmt names place) (TypedStmtForm-F.Label a)

  pub of_Case : (a : TypedStmt) → form_flow names place (form.Case a) ≡ (λ o spot. rules.case_flow o (flow names place a))
  unfolding flow form_flow item_flow
  of_Case a = ap (form_flow names place) (sym (form.rolls-Case a)) ∙ fold-roll-TypedStmtForm Flow FormFlow Flow (of_item names place) (of_form names place) (of_stmt names place) (TypedStmtForm-F.Case a)

  pub of_Default : (a : TypedStmt) → form_flow names place (form.Default a) ≡ (λ o spot. rules.case_flow o (flow names place a))
  unfolding flow form_flow item_flow
  of_Default a = ap (form_flow names place) (sym (form.rolls-Default a)) ∙ fold-roll-TypedStmtForm Flow FormFlow Flow (of_item names place) (of_form names place) (of_stmt names place) (TypedStmtForm-F.Default a)

  pub of_Block : (items : List TypedItem) → form_flow names place (form.Block items) ≡ (λ o spot. rules.in_turn (map (item_flow names place) items))
  unfolding flow form_flow item_flow
  of_Block items = ap (form_flow names place) (sym (form.rolls-Block items)) ∙ fold-roll-TypedStmtForm Flow FormFlow Flow (of_item names place) (of_form names place) (of_stmt names place) (TypedStmtForm-F.Block items)

  pub of_Do : (e : Option TypedExpr) → form_flow names place (form.Do e) ≡ (λ o spot. rules.expression_flow names e)
  unfolding flow form_flow item_flow
  of_Do e = ap (form_flow names place) (sym (form.rolls-Do e)) ∙ fold-roll-TypedStmtForm Flow FormFlow Flow (of_item names place) (of_form names place) (of_stmt names place) (TypedStmtForm-F.Do e)

  pub of_If : (c : TypedExpr) (a : TypedStmt) (b : Option TypedStmt) → form_flow names place (form.If c a b) ≡ (λ o spot. rules.if_flow names o spot (part names c) (flow names place a) (rules.otherwise (option_map (flow names place) b)))
  unfolding flow form_flow item_flow
  of_If c a None = ap (form_flow names place) (sym (form.rolls-If c a None)) ∙ fold-roll-TypedStmtForm Flow FormFlow Flow (of_item names place) (of_form names place) (of_stmt names place) (TypedStmtForm-F.If c a None)
  of_If c a (Some b) = ap (form_flow names place) (sym (form.rolls-If c a (Some b))) ∙ fold-roll-TypedStmtForm Flow FormFlow Flow (of_item names place) (of_form names place) (of_stmt names place) (TypedStmtForm-F.If c a (Some b))

  pub of_Switch : (v : TypedExpr) (cases : List SwitchCase) (default : Option ℕ) (a : TypedStmt) → form_flow names place (form.Switch v cases default a) ≡ (λ o spot. rules.switch_flow names o spot (part names v) cases default (flow names place a))
  unfolding flow form_flow item_flow
  of_Switch v cases default a = ap (form_flow names place) (sym (form.rolls-Switch v cases default a)) ∙ fold-roll-TypedStmtForm Flow FormFlow Flow (of_item names place) (of_form names place) (of_stmt names place) (TypedStmtForm-F.Switch v cases default a)

  pub of_While : (c : TypedExpr) (a : TypedStmt) → form_flow names place (form.While c a) ≡ (λ o spot. rules.while_flow names o spot (part names c) (flow names place a))
  unfolding flow form_flow item_flow
  of_While c a = ap (form_flow names place) (sym (form.rolls-While c a)) ∙ fold-roll-TypedStmtForm Flow FormFlow Flow (of_item names place) (of_form names place) (of_stmt names place) (TypedStmtForm-F.While c a)

  pub of_Until : (a : TypedStmt) (c : TypedExpr) → form_flow names place (form.Until a c) ≡ (λ o spot. rules.until_flow names o spot (flow names place a) (part names c))
  unfolding flow form_flow item_flow
  of_Until a c = ap (form_flow names place) (sym (form.rolls-Until a c)) ∙ fold-roll-TypedStmtForm Flow FormFlow Flow (of_item names place) (of_form names place) (of_stmt names place) (TypedStmtForm-F.Until a c)

  pub of_For : (f : TypedFirst) (c : Option TypedExpr) (s : Option TypedExpr) (a : TypedStmt) → form_flow names place (form.For f c s a) ≡ (λ o spot. rules.for_flow names o spot (rules.first_flow names place f) (rules.part_of names c) (rules.part_of names s) (flow names place a))
  unfolding flow form_flow item_flow
  of_For f c s a = ap (form_flow names place) (sym (form.rolls-For f c s a)) ∙ fold-roll-TypedStmtForm Flow FormFlow Flow (of_item names place) (of_form names place) (of_stmt names place) (TypedStmtForm-F.For f c s a)

  pub of_Goto : (label : ℕ) → form_flow names place (form.Goto label) ≡ (λ o spot. rules.goto_flow names label)
  unfolding flow form_flow item_flow
  of_Goto label = ap (form_flow names place) (sym (form.rolls-Goto label)) ∙ fold-roll-TypedStmtForm Flow FormFlow Flow (of_item names place) (of_form names place) (of_stmt names place) (TypedStmtForm-F.Goto label)

  pub of_Continue : form_flow names place form.Continue ≡ (λ o spot. rules.leads (λ go. go.continues))
  unfolding flow form_flow item_flow
  of_Continue = ap (form_flow names place) (sym form.rolls-Continue) ∙ fold-roll-TypedStmtForm Flow FormFlow Flow (of_item names place) (of_form names place) (of_stmt names place) TypedStmtForm-F.Continue

  pub of_Break : form_flow names place form.Break ≡ (λ o spot. rules.leads (λ go. go.breaks))
  unfolding flow form_flow item_flow
  of_Break = ap (form_flow names place) (sym form.rolls-Break) ∙ fold-roll-TypedStmtForm Flow FormFlow Flow (of_item names place) (of_form names place) (of_stmt names place) TypedStmtForm-F.Break

  pub of_Return : (e : Option TypedExpr) → form_flow names place (form.Return e) ≡ (λ o spot. rules.return_flow names o spot (rules.part_of names e))
  unfolding flow form_flow item_flow
  of_Return e = ap (form_flow names place) (sym (form.rolls-Return e)) ∙ fold-roll-TypedStmtForm Flow FormFlow Flow (of_item names place) (of_form names place) (of_stmt names place) (TypedStmtForm-F.Return e)

  pub of_item_Declare : (i : TypedItem) (list : List LocalInit) → i ≡ item.Declare list → item_flow names place i ≡ rules.inits_flow names place list
  unfolding flow form_flow item_flow
  of_item_Declare i list is = ap (item_flow names place) (is ∙ sym (item.rolls-Declare list)) ∙ fold-roll-TypedItem Flow FormFlow Flow (of_item names place) (of_form names place) (of_stmt names place) (TypedItem-F.Declare list)

  pub of_item_Stmt : (i : TypedItem) (a : TypedStmt) → i ≡ item.Stmt a → item_flow names place i ≡ flow names place a
  unfolding flow form_flow item_flow
  of_item_Stmt i a is = ap (item_flow names place) (is ∙ sym (item.rolls-Stmt a)) ∙ fold-roll-TypedItem Flow FormFlow Flow (of_item names place) (of_form names place) (of_stmt names place) (TypedItem-F.Stmt a)
