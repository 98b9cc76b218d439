use Rattle.std.proofs.Common.{◌∙◌, Some, None, refl, sym, ap, subst, drop, ◌+◌}
use Rattle.std.specs.Prelude.{IfOk, OnOk}
use Rattle.lk_tree.specs.declared.statement.StmtForm.TheVariants as form
use Rattle.lk_tree.specs.declared.statement.BlockItem.TheOpen.{StmtForm-F}
use Rattle.lk_typed.specs.declared.statement.TypedStmtForm.{out-TypedStmtForm}
use Rattle.lk_typed.specs.declared.statement.TypedStmtForm.TheVariants as typed
use Rattle.lk_typed.specs.declared.statement.TypedItem.TheVariants as typed_item
use Rattle.lk_rules.proofs.Rests.{next_left, nothing_left}
use Rattle.lk_rules.proofs.Shapes as shape
use Rattle.lk_elaborator.proofs.Growing.{grows_on}
use Rattle.lk_elaborate.proofs.Carried.{goes_same, goes_then}
use Rattle.lk_elaborate.proofs.Making as made
use Rattle.lk_elaborate.proofs.PuttingStatements as put
use Rattle.lk_elaborate.proofs.Shaping as shaped
use Rattle.lk_elaborate.specs.Making.{MakesElse, MakesForm}
use Rattle.lk_elaborate.specs.PuttingStatements.{PutsElse, PutsForm}
use Rattle.lk_elaborate.proofs.statements.+statements.Goals as goal

pub labelled-returns-clause-makes : goal.labelled-returns-clause-makes
labelled-returns-clause-makes t c =
    subst (MakesForm c.args.walk.now c.statement_part.new.walk c.args.around.now (StmtForm-F.Label c.args.name.now c.args.inner.now)) (sym (shaped.a_label c.in_ok-inner.inner))
    (made.labelled c.args.around.now c.args.walk.now c.statement_part.new.walk c.args.name.now c.args.inner.now c.in_ok-inner.inner c.in_ok-inner.ensures.makes)

pub case-returns-clause-makes : goal.case-returns-clause-makes
case-returns-clause-makes t c =
    subst (MakesForm c.args.walk.now c.statement_part.new.walk c.args.around.now (StmtForm-F.Case c.args.e.now c.args.inner.now)) (sym (shaped.a_case c.in_ok-inner.inner))
    (made.cased c.args.around.now c.args.walk.now c.statement_part.new.walk c.args.e.now c.args.inner.now c.in_ok-inner.inner c.in_ok-inner.ensures.makes)

pub default_case-returns-clause-makes : goal.default_case-returns-clause-makes
default_case-returns-clause-makes t c =
    subst (MakesForm c.args.walk.now c.statement_part.new.walk c.args.around.now (StmtForm-F.Default c.args.inner.now)) (sym (shaped.a_default c.in_ok-inner.inner))
    (made.defaulted c.args.around.now c.args.walk.now c.statement_part.new.walk c.args.inner.now c.in_ok-inner.inner c.in_ok-inner.ensures.makes)

pub block-returns-clause-makes : goal.block-returns-clause-makes
block-returns-clause-makes t c =
    subst (MakesForm c.args.walk.now c.block_items.new.walk c.args.around.now (StmtForm-F.Block c.args.items.now)) (sym (shaped.a_block c.in_ok-items.items))
    (made.blocked c.args.around.now c.args.walk.now c.block_items.new.walk c.args.items.now c.in_ok-items.items c.in_ok-items.ensures.makes)

pub while_loop-returns-clause-makes : goal.while_loop-returns-clause-makes
while_loop-returns-clause-makes t c =
    subst (MakesForm c.args.walk.now c.statement_value.new.walk c.args.around.now (StmtForm-F.While c.args.e.now c.args.inner.now)) (sym (shaped.a_while c.in_ok-condition.condition c.in_ok-inner.inner))
    (made.while_turned c.args.around.now c.args.walk.now c.statement_part.new.walk c.statement_value.new.walk c.args.e.now c.args.inner.now c.in_ok-condition.condition c.in_ok-inner.inner
    c.in_ok-inner.ensures.goes_on c.in_ok-inner.ensures.makes c.in_ok-condition.ensures.grows c.in_ok-condition.ensures.makes)

pub while_loop-returns-clause-goes_on : goal.while_loop-returns-clause-goes_on
while_loop-returns-clause-goes_on t c =
    goes_then c.args.walk.now c.statement_part.new.walk c.statement_value.new.walk c.in_ok-inner.ensures.goes_on (grows_on c.statement_part.new.walk c.statement_value.new.walk c.in_ok-condition.ensures.grows)

pub until_loop-returns-clause-makes : goal.until_loop-returns-clause-makes
until_loop-returns-clause-makes t c =
    subst (MakesForm c.args.walk.now c.statement_value.new.walk c.args.around.now (StmtForm-F.Until c.args.inner.now c.args.e.now)) (sym (shaped.an_until c.in_ok-inner.inner c.in_ok-condition.condition))
    (made.until_turned c.args.around.now c.args.walk.now c.statement_part.new.walk c.statement_value.new.walk c.args.e.now c.args.inner.now c.in_ok-condition.condition c.in_ok-inner.inner
    c.in_ok-inner.ensures.goes_on c.in_ok-inner.ensures.makes c.in_ok-condition.ensures.grows c.in_ok-condition.ensures.makes)

pub until_loop-returns-clause-goes_on : goal.until_loop-returns-clause-goes_on
until_loop-returns-clause-goes_on t c =
    goes_then c.args.walk.now c.statement_part.new.walk c.statement_value.new.walk c.in_ok-inner.ensures.goes_on (grows_on c.statement_part.new.walk c.statement_value.new.walk c.in_ok-condition.ensures.grows)

pub switch_statement-returns-clause-makes : goal.switch_statement-returns-clause-makes
switch_statement-returns-clause-makes t c =
    subst (MakesForm c.args.walk.now c.switch_value.new.walk c.args.around.now (StmtForm-F.Switch c.args.e.now c.args.inner.now)) (sym c.switch_form.ensures)
    (made.switched c.args.around.now c.args.walk.now c.statement_part.new.walk c.switch_value.new.walk c.args.e.now c.args.inner.now c.in_ok-found.found c.in_ok-value.value c.in_ok-inner.inner
    c.in_ok-found.ensures c.in_ok-inner.ensures.goes_on c.in_ok-inner.ensures.makes c.in_ok-value.ensures.grows c.in_ok-value.ensures.makes)

pub switch_statement-returns-clause-goes_on : goal.switch_statement-returns-clause-goes_on
switch_statement-returns-clause-goes_on t c =
    goes_then c.args.walk.now c.statement_part.new.walk c.switch_value.new.walk c.in_ok-inner.ensures.goes_on (grows_on c.statement_part.new.walk c.switch_value.new.walk c.in_ok-value.ensures.grows)

pub for_loop-returns-clause-makes : goal.for_loop-returns-clause-makes
for_loop-returns-clause-makes t c =
    let h = c.in_ok-head.ensures.makes in
    subst (MakesForm c.args.walk.now c.statement_part.new.walk c.args.around.now (StmtForm-F.For c.args.first.now c.args.test.now c.args.step.now c.args.inner.now)) (sym c.for_form.ensures)
    (made.for_turned c.args.around.now c.args.walk.now h.first h.second c.for_head.new.walk c.statement_part.new.walk c.args.first.now c.args.test.now c.args.step.now c.args.inner.now
    c.in_ok-head.head.first c.in_ok-head.head.test c.in_ok-head.head.step c.in_ok-inner.inner
    h.first_on h.first_makes h.second_grows h.second_makes h.third_grows h.third_makes c.in_ok-inner.ensures.goes_on c.in_ok-inner.ensures.makes)

pub for_loop-returns-clause-goes_on : goal.for_loop-returns-clause-goes_on
for_loop-returns-clause-goes_on t c =
    goes_then c.args.walk.now c.for_head.new.walk c.statement_part.new.walk c.in_ok-head.ensures.goes_on c.in_ok-inner.ensures.goes_on

pub statement_form-returns-in-Label-clause-makes : goal.statement_form-returns-in-Label-clause-makes
statement_form-returns-in-Label-clause-makes t c =
    subst (λ f. IfOk c.labelled.result (λ form. MakesForm c.args.walk.now c.labelled.new.walk c.args.around.now f (out-TypedStmtForm form)))
    (sym (shape.a_label c.args.s.now.form c.in-Label.name c.get.result.now (c.in-Label.is ∙ ap (form.Label c.in-Label.name) (sym c.get.ensures)))) c.labelled.ensures.makes

pub statement_form-returns-in-Case-clause-makes : goal.statement_form-returns-in-Case-clause-makes
statement_form-returns-in-Case-clause-makes t c =
    subst (λ f. IfOk c.case.result (λ form. MakesForm c.args.walk.now c.case.new.walk c.args.around.now f (out-TypedStmtForm form)))
    (sym (shape.a_case c.args.s.now.form c.in-Case.e c.get-in-Case.result.now (c.in-Case.is ∙ ap (form.Case c.in-Case.e) (sym c.get-in-Case.ensures)))) c.case.ensures.makes

pub statement_form-returns-in-Default-clause-makes : goal.statement_form-returns-in-Default-clause-makes
statement_form-returns-in-Default-clause-makes t c =
    subst (λ f. IfOk c.default_case.result (λ form. MakesForm c.args.walk.now c.default_case.new.walk c.args.around.now f (out-TypedStmtForm form)))
    (sym (shape.a_default c.args.s.now.form c.get-in-Default.result.now (c.in-Default.is ∙ ap form.Default (sym c.get-in-Default.ensures)))) c.default_case.ensures.makes

pub statement_form-returns-in-Block-clause-makes : goal.statement_form-returns-in-Block-clause-makes
statement_form-returns-in-Block-clause-makes t c =
    subst (λ f. IfOk c.block.result (λ form. MakesForm c.args.walk.now c.block.new.walk c.args.around.now f (out-TypedStmtForm form)))
    (sym (shape.a_block c.args.s.now.form c.list.result.now (c.in-Block.is ∙ ap form.Block (sym c.list.ensures)))) c.block.ensures.makes

pub statement_form-returns-in-Do-clause-makes : goal.statement_form-returns-in-Do-clause-makes
statement_form-returns-in-Do-clause-makes t c =
    subst (λ f. IfOk c.dropped.result (λ form. MakesForm c.args.walk.now c.dropped.new.walk c.args.around.now f (out-TypedStmtForm form)))
    (sym (shape.a_do c.args.s.now.form c.in-Do.e c.in-Do.is)) c.dropped.ensures.makes

pub statement_form-returns-in_ok-form-in-If-clause-makes : goal.statement_form-returns-in_ok-form-in-If-clause-makes
statement_form-returns-in_ok-form-in-If-clause-makes t c =
    let is = c.in_ok-form-in-If.ensures.makes in
    let old = c.args.walk.now in
    let new = c.if_form.new.walk in
    let taken = c.get-in-If.result.now in
    subst (λ f. MakesForm old new c.args.around.now f (out-TypedStmtForm c.in_ok-form-in-If.form))
    (sym (shape.an_if c.args.s.now.form c.in-If.e taken c.in-If.other (c.in-If.is ∙ ap (λ s. form.If c.in-If.e s c.in-If.other) (sym c.get-in-If.ensures))))
    (subst (MakesForm old new c.args.around.now (StmtForm-F.If c.in-If.e taken c.in-If.other)) (sym is.is)
    (made.chosen c.args.around.now old c.statement_part.new.walk c.part_if_any.new.walk new c.in-If.e taken c.in-If.other is.condition c.in_ok-taken-in-If.taken c.in_ok-other-in-If.other
    c.in_ok-taken-in-If.ensures.goes_on c.in_ok-taken-in-If.ensures.makes c.in_ok-other-in-If.ensures.goes_on c.in_ok-other-in-If.ensures.makes c.in_ok-form-in-If.ensures.grows is.makes))

pub statement_form-returns-in_ok-form-in-If-clause-goes_on : goal.statement_form-returns-in_ok-form-in-If-clause-goes_on
statement_form-returns-in_ok-form-in-If-clause-goes_on t c =
    goes_then c.args.walk.now c.part_if_any.new.walk c.if_form.new.walk
    (goes_then c.args.walk.now c.statement_part.new.walk c.part_if_any.new.walk c.in_ok-taken-in-If.ensures.goes_on c.in_ok-other-in-If.ensures.goes_on)
    (grows_on c.part_if_any.new.walk c.if_form.new.walk c.in_ok-form-in-If.ensures.grows)

pub statement_form-returns-in-Switch-clause-makes : goal.statement_form-returns-in-Switch-clause-makes
statement_form-returns-in-Switch-clause-makes t c =
    subst (λ f. IfOk c.switch_statement.result (λ form. MakesForm c.args.walk.now c.switch_statement.new.walk c.args.around.now f (out-TypedStmtForm form)))
    (sym (shape.a_switch c.args.s.now.form c.in-Switch.e c.get-in-Switch.result.now (c.in-Switch.is ∙ ap (form.Switch c.in-Switch.e) (sym c.get-in-Switch.ensures)))) c.switch_statement.ensures.makes

pub statement_form-returns-in-While-clause-makes : goal.statement_form-returns-in-While-clause-makes
statement_form-returns-in-While-clause-makes t c =
    subst (λ f. IfOk c.while_loop.result (λ form. MakesForm c.args.walk.now c.while_loop.new.walk c.args.around.now f (out-TypedStmtForm form)))
    (sym (shape.a_while c.args.s.now.form c.in-While.e c.get-in-While.result.now (c.in-While.is ∙ ap (form.While c.in-While.e) (sym c.get-in-While.ensures)))) c.while_loop.ensures.makes

pub statement_form-returns-in-Until-clause-makes : goal.statement_form-returns-in-Until-clause-makes
statement_form-returns-in-Until-clause-makes t c =
    subst (λ f. IfOk c.until_loop.result (λ form. MakesForm c.args.walk.now c.until_loop.new.walk c.args.around.now f (out-TypedStmtForm form)))
    (sym (shape.an_until c.args.s.now.form c.get-in-Until.result.now c.in-Until.e (c.in-Until.is ∙ ap (λ i. form.Until i c.in-Until.e) (sym c.get-in-Until.ensures)))) c.until_loop.ensures.makes

pub statement_form-returns-in-For-clause-makes : goal.statement_form-returns-in-For-clause-makes
statement_form-returns-in-For-clause-makes t c =
    subst (λ f. IfOk c.for_loop.result (λ form. MakesForm c.args.walk.now c.for_loop.new.walk c.args.around.now f (out-TypedStmtForm form)))
    (sym (shape.a_for c.args.s.now.form c.in-For.first c.in-For.test c.in-For.step c.get-in-For.result.now (c.in-For.is ∙ ap (form.For c.in-For.first c.in-For.test c.in-For.step) (sym c.get-in-For.ensures)))) c.for_loop.ensures.makes

pub statement_form-returns-in-Goto-clause-makes : goal.statement_form-returns-in-Goto-clause-makes
statement_form-returns-in-Goto-clause-makes t c =
    subst (λ f. IfOk c.going.result (λ form. MakesForm c.args.walk.now c.going.new.walk c.args.around.now f (out-TypedStmtForm form)))
    (sym (shape.a_goto c.args.s.now.form c.in-Goto.name c.in-Goto.is)) c.going.ensures.makes

pub statement_form-returns-in-Return-clause-makes : goal.statement_form-returns-in-Return-clause-makes
statement_form-returns-in-Return-clause-makes t c =
    subst (λ f. IfOk c.returning.result (λ form. MakesForm c.args.walk.now c.returning.new.walk c.args.around.now f (out-TypedStmtForm form)))
    (sym (shape.a_return c.args.s.now.form c.in-Return.e c.in-Return.is)) c.returning.ensures.makes

pub statement_form-returns-in-Continue-clause-makes : goal.statement_form-returns-in-Continue-clause-makes
statement_form-returns-in-Continue-clause-makes t c =
    subst (λ f. MakesForm c.args.walk.now c.args.walk.now c.args.around.now f (out-TypedStmtForm typed.Continue)) (sym (shape.a_continue c.args.s.now.form c.in-Continue.is))
    (subst (MakesForm c.args.walk.now c.args.walk.now c.args.around.now StmtForm-F.Continue) (sym shaped.a_continue) (made.continued c.args.around.now c.args.walk.now c.args.walk.now))

pub statement_form-returns-in-Continue-clause-goes_on : goal.statement_form-returns-in-Continue-clause-goes_on
statement_form-returns-in-Continue-clause-goes_on t c =
    goes_same c.args.walk.now

pub statement_form-returns-in-Break-clause-makes : goal.statement_form-returns-in-Break-clause-makes
statement_form-returns-in-Break-clause-makes t c =
    subst (λ f. MakesForm c.args.walk.now c.args.walk.now c.args.around.now f (out-TypedStmtForm typed.Break)) (sym (shape.a_break c.args.s.now.form c.in-Break.is))
    (subst (MakesForm c.args.walk.now c.args.walk.now c.args.around.now StmtForm-F.Break) (sym shaped.a_break) (made.broken c.args.around.now c.args.walk.now c.args.walk.now))

pub statement_form-returns-in-Break-clause-goes_on : goal.statement_form-returns-in-Break-clause-goes_on
statement_form-returns-in-Break-clause-goes_on t c =
    goes_same c.args.walk.now

pub statement-returns-clause-makes : goal.statement-returns-clause-makes
statement-returns-clause-makes t c =
    made.stated c.args.around.now c.args.walk.now c.statement_form.new.walk c.args.s.now (out-TypedStmtForm c.in_ok-form.form) _ c.in_ok-form.ensures.makes (record { spot = refl; ordinal = refl; made = refl })

pub part_if_any-returns-in_ok-made-in-Some-clause-makes : goal.part_if_any-returns-in_ok-made-in-Some-clause-makes
part_if_any-returns-in_ok-made-in-Some-clause-makes t c =
    subst (λ s. MakesElse c.args.walk.now c.statement_part.new.walk c.args.around.now s (Some c.in_ok-made-in-Some.made)) (sym (c.in-Some.is ∙ ap Some (sym c.get.ensures)))
    (made.some_else c.args.around.now c.args.walk.now c.statement_part.new.walk c.get.result.now c.in_ok-made-in-Some.made c.in_ok-made-in-Some.ensures.makes)

pub part_if_any-returns-in-None-clause-makes : goal.part_if_any-returns-in-None-clause-makes
part_if_any-returns-in-None-clause-makes t c =
    subst (λ s. MakesElse c.args.walk.now c.args.walk.now c.args.around.now s None) (sym c.in-None.is) (made.no_else c.args.around.now c.args.walk.now c.args.walk.now)

pub part_if_any-returns-in-None-clause-goes_on : goal.part_if_any-returns-in-None-clause-goes_on
part_if_any-returns-in-None-clause-goes_on t c =
    goes_same c.args.walk.now

pub block_item-returns-in_ok-inits-in-Declare-clause-makes : goal.block_item-returns-in_ok-inits-in-Declare-clause-makes
block_item-returns-in_ok-inits-in-Declare-clause-makes t c =
    made.declared_item c.args.around.now c.args.walk.now c.block_declaration.new.walk c.args.item.now c.in-Declare.node c.in_ok-inits-in-Declare.inits (typed_item.Declare c.in_ok-inits-in-Declare.inits) (shape.a_declaration c.args.item.now c.in-Declare.node c.in-Declare.is)
    c.in_ok-inits-in-Declare.ensures.makes (shaped.a_declaration c.in_ok-inits-in-Declare.inits)

pub block_item-returns-in_ok-made-in-Stmt-clause-makes : goal.block_item-returns-in_ok-made-in-Stmt-clause-makes
block_item-returns-in_ok-made-in-Stmt-clause-makes t c =
    made.statement_item c.args.around.now c.args.walk.now c.statement.new.walk c.args.item.now c.in-Stmt.inner c.in_ok-made-in-Stmt.made (typed_item.Stmt c.in_ok-made-in-Stmt.made) (shape.a_statement c.args.item.now c.in-Stmt.inner c.in-Stmt.is)
    c.in_ok-made-in-Stmt.ensures.makes (shaped.a_statement c.in_ok-made-in-Stmt.made)

pub block_items-loop-item-init : goal.block_items-loop-item-init
block_items-loop-item-init t c =
    record {
      goes_on = goes_same c.args.walk.now;
      left = made.all_left c.args.walk.now c.args.around.now c.args.items.now c.no_items-made.result c.no_items-made.ensures;
      put = put.all_left c.args.walk.now c.args.items.now;
    }

pub block_items-loop-item-preserved : goal.block_items-loop-item-preserved
block_items-loop-item-preserved t c =
    record {
      goes_on = goes_then c.args.walk.now c.loop-item.walk c.block_item.new.walk c.loop-item.invariant.goes_on c.in_ok-item.ensures.goes_on;
      left =
          made.one_less c.args.walk.now c.loop-item.walk c.block_item.new.walk c.args.around.now c.args.items.now (drop c.loop-item.item-index c.args.items.now) (drop (c.loop-item.item-index + 1) c.args.items.now)
          c.item-item.result c.loop-item.made c.in_ok-item.item c.push.new.self c.in_ok-push.ensures.ok (next_left c.args.items.now c.loop-item.item-index c.item-item.result c.loop-item-test.true c.item-item.is) c.in_ok-item.ensures.goes_on
          c.loop-item.invariant.left c.in_ok-item.ensures.makes;
      put =
          put.one_less c.args.walk.now c.loop-item.walk c.block_item.new.walk c.args.items.now (drop c.loop-item.item-index c.args.items.now) (drop (c.loop-item.item-index + 1) c.args.items.now) c.item-item.result
          (next_left c.args.items.now c.loop-item.item-index c.item-item.result c.loop-item-test.true c.item-item.is) c.in_ok-item.ensures.goes_on c.in_ok-item.ensures.puts c.loop-item.invariant.put;
    }

pub block_items-returns-clause-makes : goal.block_items-returns-clause-makes
block_items-returns-clause-makes t c =
    made.none_left c.args.walk.now c.loop-item.walk c.args.around.now c.args.items.now (drop c.loop-item.item-index c.args.items.now) c.loop-item.made
    (nothing_left c.args.items.now c.loop-item.item-index c.loop-item-test.false) c.loop-item.invariant.left

pub labelled-returns-clause-puts : goal.labelled-returns-clause-puts
labelled-returns-clause-puts t c = put.labelled c.args.walk.now c.statement_part.new.walk c.args.name.now c.args.inner.now c.in_ok-inner.ensures.puts

pub case-returns-clause-puts : goal.case-returns-clause-puts
case-returns-clause-puts t c = put.cased c.args.walk.now c.statement_part.new.walk c.args.e.now c.args.inner.now c.in_ok-inner.ensures.goes_on c.in_ok-inner.ensures.puts

pub default_case-returns-clause-puts : goal.default_case-returns-clause-puts
default_case-returns-clause-puts t c = put.defaulted c.args.walk.now c.statement_part.new.walk c.args.inner.now c.in_ok-inner.ensures.puts

pub block-returns-clause-puts : goal.block-returns-clause-puts
block-returns-clause-puts t c = put.blocked c.args.walk.now c.block_items.new.walk c.args.items.now c.in_ok-items.ensures.puts

pub while_loop-returns-clause-puts : goal.while_loop-returns-clause-puts
while_loop-returns-clause-puts t c =
    put.while_turned c.args.walk.now c.statement_part.new.walk c.statement_value.new.walk c.args.e.now c.args.inner.now c.in_ok-inner.ensures.goes_on c.in_ok-inner.ensures.puts c.in_ok-condition.ensures.grows

pub until_loop-returns-clause-puts : goal.until_loop-returns-clause-puts
until_loop-returns-clause-puts t c =
    put.until_turned c.args.walk.now c.statement_part.new.walk c.statement_value.new.walk c.args.e.now c.args.inner.now c.in_ok-inner.ensures.goes_on c.in_ok-inner.ensures.puts c.in_ok-condition.ensures.grows

pub switch_statement-returns-clause-puts : goal.switch_statement-returns-clause-puts
switch_statement-returns-clause-puts t c =
    put.switched c.args.walk.now c.statement_part.new.walk c.switch_value.new.walk c.args.e.now c.args.inner.now c.in_ok-inner.ensures.goes_on c.in_ok-inner.ensures.puts c.in_ok-value.ensures.grows

pub for_loop-returns-clause-puts : goal.for_loop-returns-clause-puts
for_loop-returns-clause-puts t c =
    put.for_turned c.args.walk.now c.for_head.new.walk c.statement_part.new.walk c.args.first.now c.args.test.now c.args.step.now c.args.inner.now
    c.in_ok-head.ensures.goes_on c.in_ok-head.ensures.puts c.in_ok-inner.ensures.goes_on c.in_ok-inner.ensures.puts

pub statement_form-returns-in-Label-clause-puts : goal.statement_form-returns-in-Label-clause-puts
statement_form-returns-in-Label-clause-puts t c =
    subst (λ f. OnOk c.labelled.result (PutsForm c.args.walk.now c.labelled.new.walk f))
    (sym (shape.a_label c.args.s.now.form c.in-Label.name c.get.result.now (c.in-Label.is ∙ ap (form.Label c.in-Label.name) (sym c.get.ensures)))) c.labelled.ensures.puts

pub statement_form-returns-in-Case-clause-puts : goal.statement_form-returns-in-Case-clause-puts
statement_form-returns-in-Case-clause-puts t c =
    subst (λ f. OnOk c.case.result (PutsForm c.args.walk.now c.case.new.walk f))
    (sym (shape.a_case c.args.s.now.form c.in-Case.e c.get-in-Case.result.now (c.in-Case.is ∙ ap (form.Case c.in-Case.e) (sym c.get-in-Case.ensures)))) c.case.ensures.puts

pub statement_form-returns-in-Default-clause-puts : goal.statement_form-returns-in-Default-clause-puts
statement_form-returns-in-Default-clause-puts t c =
    subst (λ f. OnOk c.default_case.result (PutsForm c.args.walk.now c.default_case.new.walk f))
    (sym (shape.a_default c.args.s.now.form c.get-in-Default.result.now (c.in-Default.is ∙ ap form.Default (sym c.get-in-Default.ensures)))) c.default_case.ensures.puts

pub statement_form-returns-in-Block-clause-puts : goal.statement_form-returns-in-Block-clause-puts
statement_form-returns-in-Block-clause-puts t c =
    subst (λ f. OnOk c.block.result (PutsForm c.args.walk.now c.block.new.walk f))
    (sym (shape.a_block c.args.s.now.form c.list.result.now (c.in-Block.is ∙ ap form.Block (sym c.list.ensures)))) c.block.ensures.puts

pub statement_form-returns-in-Do-clause-puts : goal.statement_form-returns-in-Do-clause-puts
statement_form-returns-in-Do-clause-puts t c =
    subst (λ f. OnOk c.dropped.result (PutsForm c.args.walk.now c.dropped.new.walk f))
    (sym (shape.a_do c.args.s.now.form c.in-Do.e c.in-Do.is)) c.dropped.ensures.puts

pub statement_form-returns-in-Switch-clause-puts : goal.statement_form-returns-in-Switch-clause-puts
statement_form-returns-in-Switch-clause-puts t c =
    subst (λ f. OnOk c.switch_statement.result (PutsForm c.args.walk.now c.switch_statement.new.walk f))
    (sym (shape.a_switch c.args.s.now.form c.in-Switch.e c.get-in-Switch.result.now (c.in-Switch.is ∙ ap (form.Switch c.in-Switch.e) (sym c.get-in-Switch.ensures)))) c.switch_statement.ensures.puts

pub statement_form-returns-in-While-clause-puts : goal.statement_form-returns-in-While-clause-puts
statement_form-returns-in-While-clause-puts t c =
    subst (λ f. OnOk c.while_loop.result (PutsForm c.args.walk.now c.while_loop.new.walk f))
    (sym (shape.a_while c.args.s.now.form c.in-While.e c.get-in-While.result.now (c.in-While.is ∙ ap (form.While c.in-While.e) (sym c.get-in-While.ensures)))) c.while_loop.ensures.puts

pub statement_form-returns-in-Until-clause-puts : goal.statement_form-returns-in-Until-clause-puts
statement_form-returns-in-Until-clause-puts t c =
    subst (λ f. OnOk c.until_loop.result (PutsForm c.args.walk.now c.until_loop.new.walk f))
    (sym (shape.an_until c.args.s.now.form c.get-in-Until.result.now c.in-Until.e (c.in-Until.is ∙ ap (λ i. form.Until i c.in-Until.e) (sym c.get-in-Until.ensures)))) c.until_loop.ensures.puts

pub statement_form-returns-in-For-clause-puts : goal.statement_form-returns-in-For-clause-puts
statement_form-returns-in-For-clause-puts t c =
    subst (λ f. OnOk c.for_loop.result (PutsForm c.args.walk.now c.for_loop.new.walk f))
    (sym (shape.a_for c.args.s.now.form c.in-For.first c.in-For.test c.in-For.step c.get-in-For.result.now (c.in-For.is ∙ ap (form.For c.in-For.first c.in-For.test c.in-For.step) (sym c.get-in-For.ensures)))) c.for_loop.ensures.puts

pub statement_form-returns-in-Goto-clause-puts : goal.statement_form-returns-in-Goto-clause-puts
statement_form-returns-in-Goto-clause-puts t c =
    subst (λ f. OnOk c.going.result (PutsForm c.args.walk.now c.going.new.walk f))
    (sym (shape.a_goto c.args.s.now.form c.in-Goto.name c.in-Goto.is)) c.going.ensures.puts

pub statement_form-returns-in-Return-clause-puts : goal.statement_form-returns-in-Return-clause-puts
statement_form-returns-in-Return-clause-puts t c =
    subst (λ f. OnOk c.returning.result (PutsForm c.args.walk.now c.returning.new.walk f))
    (sym (shape.a_return c.args.s.now.form c.in-Return.e c.in-Return.is)) c.returning.ensures.puts

pub statement_form-returns-in_ok-form-in-If-clause-puts : goal.statement_form-returns-in_ok-form-in-If-clause-puts
statement_form-returns-in_ok-form-in-If-clause-puts t c =
    let taken = c.get-in-If.result.now in
    subst (PutsForm c.args.walk.now c.if_form.new.walk)
    (sym (shape.an_if c.args.s.now.form c.in-If.e taken c.in-If.other (c.in-If.is ∙ ap (λ s. form.If c.in-If.e s c.in-If.other) (sym c.get-in-If.ensures))))
    (put.chosen c.args.walk.now c.statement_part.new.walk c.part_if_any.new.walk c.if_form.new.walk c.in-If.e taken c.in-If.other
    c.in_ok-taken-in-If.ensures.goes_on c.in_ok-taken-in-If.ensures.puts c.in_ok-other-in-If.ensures.goes_on c.in_ok-other-in-If.ensures.puts c.in_ok-form-in-If.ensures.grows)

pub statement_form-returns-in-Continue-clause-puts : goal.statement_form-returns-in-Continue-clause-puts
statement_form-returns-in-Continue-clause-puts t c = subst (PutsForm c.args.walk.now c.args.walk.now) (sym (shape.a_continue c.args.s.now.form c.in-Continue.is)) (put.continued c.args.walk.now)

pub statement_form-returns-in-Break-clause-puts : goal.statement_form-returns-in-Break-clause-puts
statement_form-returns-in-Break-clause-puts t c = subst (PutsForm c.args.walk.now c.args.walk.now) (sym (shape.a_break c.args.s.now.form c.in-Break.is)) (put.broken c.args.walk.now)

pub statement-returns-clause-puts : goal.statement-returns-clause-puts
statement-returns-clause-puts t c = put.stated c.args.walk.now c.statement_form.new.walk c.args.s.now c.in_ok-form.ensures.puts

pub part_if_any-returns-in_ok-made-in-Some-clause-puts : goal.part_if_any-returns-in_ok-made-in-Some-clause-puts
part_if_any-returns-in_ok-made-in-Some-clause-puts t c =
    subst (PutsElse c.args.walk.now c.statement_part.new.walk) (sym (c.in-Some.is ∙ ap Some (sym c.get.ensures)))
    (put.some_else c.args.walk.now c.statement_part.new.walk c.get.result.now c.in_ok-made-in-Some.ensures.puts)

pub part_if_any-returns-in-None-clause-puts : goal.part_if_any-returns-in-None-clause-puts
part_if_any-returns-in-None-clause-puts t c = subst (PutsElse c.args.walk.now c.args.walk.now) (sym c.in-None.is) (put.no_else c.args.walk.now)

pub block_item-returns-in_ok-inits-in-Declare-clause-puts : goal.block_item-returns-in_ok-inits-in-Declare-clause-puts
block_item-returns-in_ok-inits-in-Declare-clause-puts t c =
    put.declared_item c.args.walk.now c.block_declaration.new.walk c.args.item.now c.in-Declare.node (shape.a_declaration c.args.item.now c.in-Declare.node c.in-Declare.is)
    c.in_ok-inits-in-Declare.ensures.puts

pub block_item-returns-in_ok-made-in-Stmt-clause-puts : goal.block_item-returns-in_ok-made-in-Stmt-clause-puts
block_item-returns-in_ok-made-in-Stmt-clause-puts t c =
    put.statement_item c.args.walk.now c.statement.new.walk c.args.item.now c.in-Stmt.inner (shape.a_statement c.args.item.now c.in-Stmt.inner c.in-Stmt.is)
    c.in_ok-made-in-Stmt.ensures.puts

pub block_items-returns-clause-puts : goal.block_items-returns-clause-puts
block_items-returns-clause-puts t c =
    put.none_left c.args.walk.now c.loop-item.walk c.args.items.now (drop c.loop-item.item-index c.args.items.now)
    (nothing_left c.args.items.now c.loop-item.item-index c.loop-item-test.false) c.loop-item.invariant.put
