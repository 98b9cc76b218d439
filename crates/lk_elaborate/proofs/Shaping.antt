-- One layer of a typed statement, by the variant that it is.
use Rattle.std.proofs.Common.{◌≡◌, ◌∙◌, ℕ, List, Option, sym, ap}
use Rattle.lk_typed.specs.declared.expression.TypedExpr.{TypedExpr}
use Rattle.lk_typed.specs.declared.statement.LocalInit.{LocalInit}
use Rattle.lk_typed.specs.declared.statement.SwitchCase.{SwitchCase}
use Rattle.lk_typed.specs.declared.statement.TypedFirst.{TypedFirst}
use Rattle.lk_typed.specs.declared.statement.TypedItem.{TypedItem, out-TypedItem, out-roll-TypedItem}
use Rattle.lk_typed.specs.declared.statement.TypedItem.TheOpen.{TypedItem-F, TypedStmtForm-F}
use Rattle.lk_typed.specs.declared.statement.TypedItem.TheVariants as item
use Rattle.lk_typed.specs.declared.statement.TypedStmt.{TypedStmt}
use Rattle.lk_typed.specs.declared.statement.TypedStmtForm.{out-TypedStmtForm, out-roll-TypedStmtForm}
use Rattle.lk_typed.specs.declared.statement.TypedStmtForm.TheVariants as form

pub a_label : (a : TypedStmt) → out-TypedStmtForm (form.Label a) ≡ TypedStmtForm-F.Label a
a_label a = ap out-TypedStmtForm (sym (form.rolls-Label a)) ∙ out-roll-TypedStmtForm (TypedStmtForm-F.Label a)

pub a_case : (a : TypedStmt) → out-TypedStmtForm (form.Case a) ≡ TypedStmtForm-F.Case a
a_case a = ap out-TypedStmtForm (sym (form.rolls-Case a)) ∙ out-roll-TypedStmtForm (TypedStmtForm-F.Case a)

pub a_default : (a : TypedStmt) → out-TypedStmtForm (form.Default a) ≡ TypedStmtForm-F.Default a
a_default a = ap out-TypedStmtForm (sym (form.rolls-Default a)) ∙ out-roll-TypedStmtForm (TypedStmtForm-F.Default a)

pub a_block : (items : List TypedItem) → out-TypedStmtForm (form.Block items) ≡ TypedStmtForm-F.Block items
a_block items = ap out-TypedStmtForm (sym (form.rolls-Block items)) ∙ out-roll-TypedStmtForm (TypedStmtForm-F.Block items)

pub a_do : (e : Option TypedExpr) → out-TypedStmtForm (form.Do e) ≡ TypedStmtForm-F.Do e
a_do e = ap out-TypedStmtForm (sym (form.rolls-Do e)) ∙ out-roll-TypedStmtForm (TypedStmtForm-F.Do e)

pub an_if : (c : TypedExpr) (a : TypedStmt) (b : Option TypedStmt) → out-TypedStmtForm (form.If c a b) ≡ TypedStmtForm-F.If c a b
an_if c a b = ap out-TypedStmtForm (sym (form.rolls-If c a b)) ∙ out-roll-TypedStmtForm (TypedStmtForm-F.If c a b)

pub a_while : (c : TypedExpr) (a : TypedStmt) → out-TypedStmtForm (form.While c a) ≡ TypedStmtForm-F.While c a
a_while c a = ap out-TypedStmtForm (sym (form.rolls-While c a)) ∙ out-roll-TypedStmtForm (TypedStmtForm-F.While c a)

pub an_until : (a : TypedStmt) (c : TypedExpr) → out-TypedStmtForm (form.Until a c) ≡ TypedStmtForm-F.Until a c
an_until a c = ap out-TypedStmtForm (sym (form.rolls-Until a c)) ∙ out-roll-TypedStmtForm (TypedStmtForm-F.Until a c)

pub a_goto : (n : ℕ) → out-TypedStmtForm (form.Goto n) ≡ TypedStmtForm-F.Goto n
a_goto n = ap out-TypedStmtForm (sym (form.rolls-Goto n)) ∙ out-roll-TypedStmtForm (TypedStmtForm-F.Goto n)

pub a_continue : out-TypedStmtForm form.Continue ≡ TypedStmtForm-F.Continue
a_continue = ap out-TypedStmtForm (sym form.rolls-Continue) ∙ out-roll-TypedStmtForm TypedStmtForm-F.Continue

pub a_break : out-TypedStmtForm form.Break ≡ TypedStmtForm-F.Break
a_break = ap out-TypedStmtForm (sym form.rolls-Break) ∙ out-roll-TypedStmtForm TypedStmtForm-F.Break

pub a_return : (e : Option TypedExpr) → out-TypedStmtForm (form.Return e) ≡ TypedStmtForm-F.Return e
a_return e = ap out-TypedStmtForm (sym (form.rolls-Return e)) ∙ out-roll-TypedStmtForm (TypedStmtForm-F.Return e)

pub a_switch : (v : TypedExpr) (cases : List SwitchCase) (d : Option ℕ) (a : TypedStmt) → out-TypedStmtForm (form.Switch v cases d a) ≡ TypedStmtForm-F.Switch v cases d a
a_switch v cases d a = ap out-TypedStmtForm (sym (form.rolls-Switch v cases d a)) ∙ out-roll-TypedStmtForm (TypedStmtForm-F.Switch v cases d a)

pub a_for : (f : TypedFirst) (c : Option TypedExpr) (d : Option TypedExpr) (a : TypedStmt) → out-TypedStmtForm (form.For f c d a) ≡ TypedStmtForm-F.For f c d a
a_for f c d a = ap out-TypedStmtForm (sym (form.rolls-For f c d a)) ∙ out-roll-TypedStmtForm (TypedStmtForm-F.For f c d a)

pub a_declaration : (inits : List LocalInit) → out-TypedItem (item.Declare inits) ≡ TypedItem-F.Declare inits
a_declaration inits = ap out-TypedItem (sym (item.rolls-Declare inits)) ∙ out-roll-TypedItem (TypedItem-F.Declare inits)

pub a_statement : (t : TypedStmt) → out-TypedItem (item.Stmt t) ≡ TypedItem-F.Stmt t
a_statement t = ap out-TypedItem (sym (item.rolls-Stmt t)) ∙ out-roll-TypedItem (TypedItem-F.Stmt t)
