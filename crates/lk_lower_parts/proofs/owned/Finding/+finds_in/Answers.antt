use Rattle.std.proofs.Common.{refl, rules, sym}
use Rattle.std.specs.Prelude.{map}
use Rattle.lk_lower_expr.specs.Owned.{all_of}
use Rattle.lk_lower_parts.proofs.Adding.{loop_more, no_more, then_more}
use Rattle.lk_lower_parts.proofs.OwnedStatements.{as_form, of_Label, of_Case, of_Default, of_Block, of_Do, of_If, of_Switch, of_While, of_Until, of_For, of_Goto, of_Continue, of_Break, of_Return, of_item_Declare, of_item_Stmt}
use Rattle.lk_lower_parts.specs.Found.{all_found, form_in, item_owned}
use Rattle.lk_typed.specs.declared.statement.TypedStmtForm.TheVariants as stmt
use Rattle.lk_lower_parts.proofs.owned.Finding.+finds_in.Goals as goal

pub push_statement-returns-in-Label : goal.push_statement-returns-in-Label
push_statement-returns-in-Label t c = rw (as_form (form_in c.args.self.now) c.args.s.now (stmt.Label c.in-Label.a) _ c.in-Label.is (of_Label (form_in c.args.self.now) c.in-Label.a)) (search rules)

pub push_statement-returns-in-Case : goal.push_statement-returns-in-Case
push_statement-returns-in-Case t c = rw (as_form (form_in c.args.self.now) c.args.s.now (stmt.Case c.in-Case.a) _ c.in-Case.is (of_Case (form_in c.args.self.now) c.in-Case.a)) (search rules)

pub push_statement-returns-in-Default : goal.push_statement-returns-in-Default
push_statement-returns-in-Default t c = rw (as_form (form_in c.args.self.now) c.args.s.now (stmt.Default c.in-Default.a) _ c.in-Default.is (of_Default (form_in c.args.self.now) c.in-Default.a)) (search rules)

pub push_statement-returns-in-Block : goal.push_statement-returns-in-Block
push_statement-returns-in-Block t c = rw (as_form (form_in c.args.self.now) c.args.s.now (stmt.Block c.in-Block.items) _ c.in-Block.is (of_Block (form_in c.args.self.now) c.in-Block.items)) (search rules)

pub push_statement-returns-in-Do : goal.push_statement-returns-in-Do
push_statement-returns-in-Do t c = rw (as_form (form_in c.args.self.now) c.args.s.now (stmt.Do c.in-Do.e) _ c.in-Do.is (of_Do (form_in c.args.self.now) c.in-Do.e)) (search rules)

pub push_statement-returns-in-Return : goal.push_statement-returns-in-Return
push_statement-returns-in-Return t c = rw (as_form (form_in c.args.self.now) c.args.s.now (stmt.Return c.in-Return.e) _ c.in-Return.is (of_Return (form_in c.args.self.now) c.in-Return.e)) (search rules)

pub push_statement-returns-in-Goto : goal.push_statement-returns-in-Goto
push_statement-returns-in-Goto t c = rw (as_form (form_in c.args.self.now) c.args.s.now (stmt.Goto c.in-Goto.field-0) _ c.in-Goto.is (of_Goto (form_in c.args.self.now) c.in-Goto.field-0)) (no_more c.args.out.now.items)

pub push_statement-returns-in-Continue : goal.push_statement-returns-in-Continue
push_statement-returns-in-Continue t c = rw (as_form (form_in c.args.self.now) c.args.s.now stmt.Continue _ c.in-Continue.is (of_Continue (form_in c.args.self.now))) (no_more c.args.out.now.items)

pub push_statement-returns-in-Break : goal.push_statement-returns-in-Break
push_statement-returns-in-Break t c = rw (as_form (form_in c.args.self.now) c.args.s.now stmt.Break _ c.in-Break.is (of_Break (form_in c.args.self.now))) (no_more c.args.out.now.items)

pub push_statement-returns-in_ok-push_statement-in-If : goal.push_statement-returns-in_ok-push_statement-in-If
push_statement-returns-in_ok-push_statement-in-If t c = rw (as_form (form_in c.args.self.now) c.args.s.now (stmt.If c.in-If.c c.in-If.a c.in-If.b) _ c.in-If.is (of_If (form_in c.args.self.now) c.in-If.c c.in-If.a c.in-If.b), sym c.get-in-If.ensures) (then_more c.push_otherwise.result c.args.out.now.items c.push.new.out.items c.push_otherwise.new.out.items _ _ c.in_ok-push-in-If.ensures
    (then_more c.push_otherwise.result c.push.new.out.items c.push_statement-in-If.new.out.items c.push_otherwise.new.out.items _ _ c.in_ok-push_statement-in-If.ensures c.push_otherwise.ensures))

pub push_statement-returns-in_ok-push-in-Switch : goal.push_statement-returns-in_ok-push-in-Switch
push_statement-returns-in_ok-push-in-Switch t c = rw (as_form (form_in c.args.self.now) c.args.s.now (stmt.Switch c.in-Switch.v c.in-Switch.field-1 c.in-Switch.field-2 c.in-Switch.a) _ c.in-Switch.is (of_Switch (form_in c.args.self.now) c.in-Switch.v c.in-Switch.field-1 c.in-Switch.field-2 c.in-Switch.a), sym c.get-in-Switch.ensures) (then_more c.push_statement-in-Switch.result c.args.out.now.items c.push-in-Switch.new.out.items c.push_statement-in-Switch.new.out.items _ _ c.in_ok-push-in-Switch.ensures c.push_statement-in-Switch.ensures)

pub push_statement-returns-in_ok-push-in-While : goal.push_statement-returns-in_ok-push-in-While
push_statement-returns-in_ok-push-in-While t c = rw (as_form (form_in c.args.self.now) c.args.s.now (stmt.While c.in-While.c c.in-While.a) _ c.in-While.is (of_While (form_in c.args.self.now) c.in-While.c c.in-While.a), sym c.get-in-While.ensures) (then_more c.push_statement-in-While.result c.args.out.now.items c.push-in-While.new.out.items c.push_statement-in-While.new.out.items _ _ c.in_ok-push-in-While.ensures c.push_statement-in-While.ensures)

pub push_statement-returns-in_ok-push_statement-in-Until : goal.push_statement-returns-in_ok-push_statement-in-Until
push_statement-returns-in_ok-push_statement-in-Until t c = rw (as_form (form_in c.args.self.now) c.args.s.now (stmt.Until c.in-Until.a c.in-Until.c) _ c.in-Until.is (of_Until (form_in c.args.self.now) c.in-Until.a c.in-Until.c), sym c.get-in-Until.ensures) (then_more c.push-in-Until.result c.args.out.now.items c.push_statement-in-Until.new.out.items c.push-in-Until.new.out.items _ _ c.in_ok-push_statement-in-Until.ensures c.push-in-Until.ensures)

pub push_statement-returns-in_ok-push_optional-in-For-2 : goal.push_statement-returns-in_ok-push_optional-in-For-2
push_statement-returns-in_ok-push_optional-in-For-2 t c = rw (as_form (form_in c.args.self.now) c.args.s.now (stmt.For c.in-For.first c.in-For.c c.in-For.step c.in-For.a) _ c.in-For.is (of_For (form_in c.args.self.now) c.in-For.first c.in-For.c c.in-For.step c.in-For.a), sym c.get-in-For.ensures) (then_more c.push_statement-in-For.result c.args.out.now.items c.push_first.new.out.items c.push_statement-in-For.new.out.items _ _ c.in_ok-push_first-in-For.ensures
    (then_more c.push_statement-in-For.result c.push_first.new.out.items c.push_optional-in-For.new.out.items c.push_statement-in-For.new.out.items _ _ c.in_ok-push_optional-in-For.ensures
    (then_more c.push_statement-in-For.result c.push_optional-in-For.new.out.items c.push_optional-in-For-2.new.out.items c.push_statement-in-For.new.out.items _ _ c.in_ok-push_optional-in-For-2.ensures c.push_statement-in-For.ensures)))

pub push_item-returns-in-Declare : goal.push_item-returns-in-Declare
push_item-returns-in-Declare t c = rw (of_item_Declare (form_in c.args.self.now) c.args.item.now c.in-Declare.inits c.in-Declare.is) (search rules)

pub push_item-returns-in-Stmt : goal.push_item-returns-in-Stmt
push_item-returns-in-Stmt t c = rw (of_item_Stmt (form_in c.args.self.now) c.args.item.now c.in-Stmt.s c.in-Stmt.is) (search rules)

pub push_items-loop-item-preserved : goal.push_items-loop-item-preserved
push_items-loop-item-preserved t c = loop_more (λ list. all_of (map (item_owned (form_in c.args.self.now)) list)) (item_owned (form_in c.args.self.now)) (λ x xs. refl) c.args.items.now c.loop-item.item-index c.item-item.result _ (all_found c.loop-item.out.items) (all_found c.push_item.new.out.items) c.loop-item-test.true c.item-item.is c.loop-item.invariant c.in_ok-push_item.ensures
