use Rattle.std.proofs.Common.{◌∙◌, Some, refl, sym, ap, subst, drop, ◌+◌}
use Rattle.std.proofs.lemmas.Result.{on_ok_weaker}
use Rattle.lk_tree.specs.declared.statement.StmtForm.TheVariants as form
use Rattle.lk_tree.specs.declared.statement.BlockItem.TheOpen.{StmtForm-F}
use Rattle.lk_rules.proofs.Rests.{next_left, nothing_left}
use Rattle.lk_rules.proofs.Shapes as shape
use Rattle.lk_elaborate.proofs.Casing as casing
use Rattle.lk_elaborate.specs.Making.{PutsOfElse}
use Rattle.lk_elaborate.proofs.cases.Cases.+cases.Goals as goal

pub put_case-returns : goal.put_case-returns
put_case-returns t c =
    casing.cased c.args.walk.now c.args.kind c.args.e.now c.args.inner.now c.args.ordinal c.in_ok-case.case c.args.self.now (record c.args.self.now { cases = c.push.new.self }) c.put.new.self c.in_ok-case.ensures c.in_ok-push.ensures.ok refl c.in_ok-put.ensures

pub put_if_any-returns-in_ok-put-in-Some : goal.put_if_any-returns-in_ok-put-in-Some
put_if_any-returns-in_ok-put-in-Some t c =
    subst (λ s. PutsOfElse c.args.walk.now c.args.kind s c.args.self.now c.put.new.self) (sym (c.in-Some.is ∙ ap Some (sym c.get.ensures))) (casing.some_else c.args.walk.now c.args.kind c.get.result.now c.args.self.now c.put.new.self c.in_ok-put-in-Some.ensures)

pub put_if_any-returns-in-None : goal.put_if_any-returns-in-None
put_if_any-returns-in-None t c =
    subst (λ s. PutsOfElse c.args.walk.now c.args.kind s c.args.self.now c.args.self.now) (sym c.in-None.is) (casing.no_else c.args.walk.now c.args.kind c.args.self.now)

pub put-returns-in-Case : goal.put-returns-in-Case
put-returns-in-Case t c =
    on_ok_weaker c.put_case.result (λ puts. casing.by_form c.args.walk.now c.args.kind c.args.s.now (StmtForm-F.Case c.in-Case.e c.get.result.now) c.args.self.now c.put_case.new.self (shape.a_case c.args.s.now.form c.in-Case.e c.get.result.now (c.in-Case.is ∙ ap (form.Case c.in-Case.e) (sym c.get.ensures))) puts) c.put_case.ensures

pub put-returns-in-Default : goal.put-returns-in-Default
put-returns-in-Default t c =
    on_ok_weaker c.put_default.result (λ puts. casing.by_form c.args.walk.now c.args.kind c.args.s.now (StmtForm-F.Default c.get-in-Default.result.now) c.args.self.now c.put_default.new.self (shape.a_default c.args.s.now.form c.get-in-Default.result.now (c.in-Default.is ∙ ap form.Default (sym c.get-in-Default.ensures))) puts) c.put_default.ensures

pub put-returns-in-Block : goal.put-returns-in-Block
put-returns-in-Block t c =
    on_ok_weaker c.put_items.result (λ puts. casing.by_form c.args.walk.now c.args.kind c.args.s.now (StmtForm-F.Block c.list.result.now) c.args.self.now c.put_items.new.self (shape.a_block c.args.s.now.form c.list.result.now (c.in-Block.is ∙ ap form.Block (sym c.list.ensures))) (casing.blocked c.args.walk.now c.args.kind c.list.result.now c.args.s.now.ordinal c.args.self.now c.put_items.new.self puts)) c.put_items.ensures

pub put-returns-in_ok-put_if_any-in-If : goal.put-returns-in_ok-put_if_any-in-If
put-returns-in_ok-put_if_any-in-If t c =
    casing.by_form c.args.walk.now c.args.kind c.args.s.now (StmtForm-F.If c.in-If.field-0 c.get-in-If.result.now c.in-If.other) c.args.self.now c.put_if_any.new.self
    (shape.an_if c.args.s.now.form c.in-If.field-0 c.get-in-If.result.now c.in-If.other (c.in-If.is ∙ ap (λ s. form.If c.in-If.field-0 s c.in-If.other) (sym c.get-in-If.ensures)))
    (casing.chosen c.args.walk.now c.args.kind c.get-in-If.result.now c.in-If.other c.args.self.now c.put-in-If.new.self c.put_if_any.new.self c.in_ok-put-in-If.ensures c.in_ok-put_if_any-in-If.ensures c.in-If.field-0 c.args.s.now.ordinal)

pub put_default-returns : goal.put_default-returns
put_default-returns t c =
    casing.defaulted c.args.walk.now c.args.kind c.args.inner.now c.args.ordinal c.args.self.now c.begin_default.new.self c.put.new.self c.in_ok-begin_default.ensures.none c.in_ok-begin_default.ensures.cases c.in_ok-begin_default.ensures.default c.in_ok-put.ensures

pub put_items-loop-item-init : goal.put_items-loop-item-init
put_items-loop-item-init t c =
    casing.all_left c.args.walk.now c.args.kind c.args.items.now c.args.self.now

pub put_items-loop-item-preserved : goal.put_items-loop-item-preserved
put_items-loop-item-preserved t c =
    casing.one_less c.args.walk.now c.args.kind c.args.items.now (drop c.loop-item.item-index c.args.items.now) (drop (c.loop-item.item-index + 1) c.args.items.now) c.item-item.result c.args.self.now c.loop-item.self c.put_item.new.self
    (next_left c.args.items.now c.loop-item.item-index c.item-item.result c.loop-item-test.true c.item-item.is) c.in_ok-put_item.ensures c.loop-item.invariant

pub put_items-returns : goal.put_items-returns
put_items-returns t c =
    casing.none_left c.args.walk.now c.args.kind c.args.items.now (drop c.loop-item.item-index c.args.items.now) c.args.self.now c.loop-item.self (nothing_left c.args.items.now c.loop-item.item-index c.loop-item-test.false) c.loop-item.invariant

pub put_item-returns-in-Declare : goal.put_item-returns-in-Declare
put_item-returns-in-Declare t c =
    casing.declaration_item c.args.walk.now c.args.kind c.args.item.now c.in-Declare.field-0 c.args.self.now (shape.a_declaration c.args.item.now c.in-Declare.field-0 c.in-Declare.is)

pub put_item-returns-in-Stmt : goal.put_item-returns-in-Stmt
put_item-returns-in-Stmt t c =
    on_ok_weaker c.put.result (λ puts. casing.statement_item c.args.walk.now c.args.kind c.args.item.now c.in-Stmt.inner c.args.self.now c.put.new.self (shape.a_statement c.args.item.now c.in-Stmt.inner c.in-Stmt.is) puts) c.put.ensures

pub put-returns-in-Label : goal.put-returns-in-Label
put-returns-in-Label t c =
    on_ok_weaker c.put.result (λ puts. casing.by_form c.args.walk.now c.args.kind c.args.s.now (StmtForm-F.Label c.in-Label.field-0 c.get-in-Label.result.now) c.args.self.now c.put.new.self (shape.a_label c.args.s.now.form c.in-Label.field-0 c.get-in-Label.result.now (c.in-Label.is ∙ ap (form.Label c.in-Label.field-0) (sym c.get-in-Label.ensures)))
    (casing.labelled c.args.walk.now c.args.kind c.in-Label.field-0 c.get-in-Label.result.now c.args.s.now.ordinal c.args.self.now c.put.new.self puts)) c.put.ensures

pub put-returns-in-While : goal.put-returns-in-While
put-returns-in-While t c =
    on_ok_weaker c.put-in-While.result (λ puts. casing.by_form c.args.walk.now c.args.kind c.args.s.now (StmtForm-F.While c.in-While.field-0 c.get-in-While.result.now) c.args.self.now c.put-in-While.new.self (shape.a_while c.args.s.now.form c.in-While.field-0 c.get-in-While.result.now (c.in-While.is ∙ ap (form.While c.in-While.field-0) (sym c.get-in-While.ensures)))
    (casing.while_turned c.args.walk.now c.args.kind c.in-While.field-0 c.get-in-While.result.now c.args.s.now.ordinal c.args.self.now c.put-in-While.new.self puts)) c.put-in-While.ensures

pub put-returns-in-Until : goal.put-returns-in-Until
put-returns-in-Until t c =
    on_ok_weaker c.put-in-Until.result (λ puts. casing.by_form c.args.walk.now c.args.kind c.args.s.now (StmtForm-F.Until c.get-in-Until.result.now c.in-Until.field-1) c.args.self.now c.put-in-Until.new.self (shape.an_until c.args.s.now.form c.get-in-Until.result.now c.in-Until.field-1 (c.in-Until.is ∙ ap (λ i. form.Until i c.in-Until.field-1) (sym c.get-in-Until.ensures)))
    (casing.until_turned c.args.walk.now c.args.kind c.in-Until.field-1 c.get-in-Until.result.now c.args.s.now.ordinal c.args.self.now c.put-in-Until.new.self puts)) c.put-in-Until.ensures

pub put-returns-in-For : goal.put-returns-in-For
put-returns-in-For t c =
    on_ok_weaker c.put-in-For.result (λ puts. casing.by_form c.args.walk.now c.args.kind c.args.s.now (StmtForm-F.For c.in-For.field-0 c.in-For.field-1 c.in-For.field-2 c.get-in-For.result.now) c.args.self.now c.put-in-For.new.self (shape.a_for c.args.s.now.form c.in-For.field-0 c.in-For.field-1 c.in-For.field-2 c.get-in-For.result.now (c.in-For.is ∙ ap (form.For c.in-For.field-0 c.in-For.field-1 c.in-For.field-2) (sym c.get-in-For.ensures)))
    (casing.for_turned c.args.walk.now c.args.kind c.in-For.field-0 c.in-For.field-1 c.in-For.field-2 c.get-in-For.result.now c.args.s.now.ordinal c.args.self.now c.put-in-For.new.self puts)) c.put-in-For.ensures

pub put-returns-in-Switch : goal.put-returns-in-Switch
put-returns-in-Switch t c =
    casing.by_form c.args.walk.now c.args.kind c.args.s.now (StmtForm-F.Switch c.in-Switch.field-0 c.in-Switch.field-1) c.args.self.now c.args.self.now (shape.a_switch c.args.s.now.form c.in-Switch.field-0 c.in-Switch.field-1 c.in-Switch.is) (casing.switched c.args.walk.now c.args.kind c.in-Switch.field-0 c.in-Switch.field-1 c.args.s.now.ordinal c.args.self.now)

pub put-returns-in-Do : goal.put-returns-in-Do
put-returns-in-Do t c =
    casing.by_form c.args.walk.now c.args.kind c.args.s.now (StmtForm-F.Do c.in-Do.field-0) c.args.self.now c.args.self.now (shape.a_do c.args.s.now.form c.in-Do.field-0 c.in-Do.is) (casing.done c.args.walk.now c.args.kind c.in-Do.field-0 c.args.s.now.ordinal c.args.self.now)

pub put-returns-in-Goto : goal.put-returns-in-Goto
put-returns-in-Goto t c =
    casing.by_form c.args.walk.now c.args.kind c.args.s.now (StmtForm-F.Goto c.in-Goto.field-0) c.args.self.now c.args.self.now (shape.a_goto c.args.s.now.form c.in-Goto.field-0 c.in-Goto.is) (casing.gone c.args.walk.now c.args.kind c.in-Goto.field-0 c.args.s.now.ordinal c.args.self.now)

pub put-returns-in-Continue : goal.put-returns-in-Continue
put-returns-in-Continue t c =
    casing.by_form c.args.walk.now c.args.kind c.args.s.now StmtForm-F.Continue c.args.self.now c.args.self.now (shape.a_continue c.args.s.now.form c.in-Continue.is) (casing.continued c.args.walk.now c.args.kind c.args.s.now.ordinal c.args.self.now)

pub put-returns-in-Break : goal.put-returns-in-Break
put-returns-in-Break t c =
    casing.by_form c.args.walk.now c.args.kind c.args.s.now StmtForm-F.Break c.args.self.now c.args.self.now (shape.a_break c.args.s.now.form c.in-Break.is) (casing.broken c.args.walk.now c.args.kind c.args.s.now.ordinal c.args.self.now)

pub put-returns-in-Return : goal.put-returns-in-Return
put-returns-in-Return t c =
    casing.by_form c.args.walk.now c.args.kind c.args.s.now (StmtForm-F.Return c.in-Return.field-0) c.args.self.now c.args.self.now (shape.a_return c.args.s.now.form c.in-Return.field-0 c.in-Return.is) (casing.returned c.args.walk.now c.args.kind c.in-Return.field-0 c.args.s.now.ordinal c.args.self.now)
