use Rattle.std.proofs.Common.{refl, sym}
use Rattle.std.specs.Option.{option_map}
use Rattle.lk_lower_expr.proofs.Operands.{from_end}
use Rattle.lk_lower_expr.specs.Reads.{names_by, part_by}
use Rattle.lk_lower_expr.specs.Statements.{otherwise, part_of}
use Rattle.lk_lower_stmt.proofs.Loops.{next_first, next_labelled, next_steps, only_added, unlabelled, with_else}
use Rattle.lk_lower_stmt.proofs.Rules.{as_form, of_item_Declare, of_item_Stmt, of_Label, of_Case, of_Default, of_Block, of_Do, of_If, of_Switch, of_While, of_Until, of_For, of_Goto, of_Continue, of_Break, of_Return}
use Rattle.lk_lower_stmt.proofs.Unlabelled.{no_label_in_expression, no_label_in_inits, no_label_in_return}
use Rattle.lk_lower_stmt.specs.Flows.{flow_by, item_by}
use Rattle.lk_typed.specs.declared.statement.TypedStmtForm.TheVariants as form
use Rattle.lk_lower_stmt.proofs.lowering.BodyLowering.+lowers.Goals as goal

pub push_statement-returns-in-Label : goal.push_statement-returns-in-Label
push_statement-returns-in-Label g t c = rw (as_form (names_by c.args.self.now.source) (g.C.Cells.places c.args.self.now.cells.now) c.args.s.now (form.Label c.in-Label.a) _ c.in-Label.is (of_Label (names_by c.args.self.now.source) (g.C.Cells.places c.args.self.now.cells.now) c.in-Label.a), sym c.get.ensures) c.push_label.ensures

pub push_statement-returns-in-Case : goal.push_statement-returns-in-Case
push_statement-returns-in-Case g t c = rw (as_form (names_by c.args.self.now.source) (g.C.Cells.places c.args.self.now.cells.now) c.args.s.now (form.Case c.in-Case.a) _ c.in-Case.is (of_Case (names_by c.args.self.now.source) (g.C.Cells.places c.args.self.now.cells.now) c.in-Case.a), sym c.get-in-Case.ensures) c.push_case.ensures

pub push_statement-returns-in-Default : goal.push_statement-returns-in-Default
push_statement-returns-in-Default g t c = rw (as_form (names_by c.args.self.now.source) (g.C.Cells.places c.args.self.now.cells.now) c.args.s.now (form.Default c.in-Default.a) _ c.in-Default.is (of_Default (names_by c.args.self.now.source) (g.C.Cells.places c.args.self.now.cells.now) c.in-Default.a), sym c.get-in-Default.ensures) c.push_case-in-Default.ensures

pub push_statement-returns-in-Block : goal.push_statement-returns-in-Block
push_statement-returns-in-Block g t c = rw (as_form (names_by c.args.self.now.source) (g.C.Cells.places c.args.self.now.cells.now) c.args.s.now (form.Block c.in-Block.items) _ c.in-Block.is (of_Block (names_by c.args.self.now.source) (g.C.Cells.places c.args.self.now.cells.now) c.in-Block.items), sym c.list.ensures) c.push_items.ensures

pub push_statement-returns-in-Do : goal.push_statement-returns-in-Do
push_statement-returns-in-Do g t c = rw (as_form (names_by c.args.self.now.source) (g.C.Cells.places c.args.self.now.cells.now) c.args.s.now (form.Do c.in-Do.e) _ c.in-Do.is (of_Do (names_by c.args.self.now.source) (g.C.Cells.places c.args.self.now.cells.now) c.in-Do.e)) (only_added _ _ _ _ _ c.push_expression.ensures refl (no_label_in_expression (names_by c.args.self.now.source) c.args.go c.in-Do.e))

pub push_statement-returns-in_ok-no-in-If : goal.push_statement-returns-in_ok-no-in-If
push_statement-returns-in_ok-no-in-If g t c = rw (as_form (names_by c.args.self.now.source) (g.C.Cells.places c.args.self.now.cells.now) c.args.s.now (form.If c.in-If.c c.in-If.a c.in-If.b) _ c.in-If.is (of_If (names_by c.args.self.now.source) (g.C.Cells.places c.args.self.now.cells.now) c.in-If.c c.in-If.a c.in-If.b), sym c.get-in-If.ensures) (with_else (names_by c.args.self.now.source) c.args.s.now.ordinal c.args.s.now.spot (part_by c.args.self.now.source c.in-If.c) (flow_by c.args.self.now.source (g.C.Cells.places c.args.self.now.cells.now) c.get-in-If.result.now) (otherwise (option_map (flow_by c.args.self.now.source (g.C.Cells.places c.args.self.now.cells.now)) c.in-If.b)) c.args.go _ _ _ _ _ c.in_ok-no-in-If.ensures.first c.in_ok-no-in-If.ensures.steps c.in_ok-no-in-If.ensures.labelled c.push_then.ensures)

pub push_statement-returns-in-Switch : goal.push_statement-returns-in-Switch
push_statement-returns-in-Switch g t c = rw (as_form (names_by c.args.self.now.source) (g.C.Cells.places c.args.self.now.cells.now) c.args.s.now (form.Switch c.in-Switch.v c.in-Switch.cases c.in-Switch.default c.in-Switch.a) _ c.in-Switch.is (of_Switch (names_by c.args.self.now.source) (g.C.Cells.places c.args.self.now.cells.now) c.in-Switch.v c.in-Switch.cases c.in-Switch.default c.in-Switch.a), sym c.list-in-Switch.ensures, sym c.get-in-Switch.ensures) c.push_switch.ensures

pub push_statement-returns-in-While : goal.push_statement-returns-in-While
push_statement-returns-in-While g t c = rw (as_form (names_by c.args.self.now.source) (g.C.Cells.places c.args.self.now.cells.now) c.args.s.now (form.While c.in-While.c c.in-While.a) _ c.in-While.is (of_While (names_by c.args.self.now.source) (g.C.Cells.places c.args.self.now.cells.now) c.in-While.c c.in-While.a), sym c.get-in-While.ensures) c.push_while.ensures

pub push_statement-returns-in-Until : goal.push_statement-returns-in-Until
push_statement-returns-in-Until g t c = rw (as_form (names_by c.args.self.now.source) (g.C.Cells.places c.args.self.now.cells.now) c.args.s.now (form.Until c.in-Until.a c.in-Until.c) _ c.in-Until.is (of_Until (names_by c.args.self.now.source) (g.C.Cells.places c.args.self.now.cells.now) c.in-Until.a c.in-Until.c), sym c.get-in-Until.ensures) c.push_until.ensures

pub push_statement-returns-in-For : goal.push_statement-returns-in-For
push_statement-returns-in-For g t c = rw (as_form (names_by c.args.self.now.source) (g.C.Cells.places c.args.self.now.cells.now) c.args.s.now (form.For c.in-For.first c.in-For.c c.in-For.last c.in-For.a) _ c.in-For.is (of_For (names_by c.args.self.now.source) (g.C.Cells.places c.args.self.now.cells.now) c.in-For.first c.in-For.c c.in-For.last c.in-For.a), sym c.get-in-For.ensures) c.push_for.ensures

pub push_statement-returns-in-Goto : goal.push_statement-returns-in-Goto
push_statement-returns-in-Goto g t c = rw (as_form (names_by c.args.self.now.source) (g.C.Cells.places c.args.self.now.cells.now) c.args.s.now (form.Goto c.in-Goto.label) _ c.in-Goto.is (of_Goto (names_by c.args.self.now.source) (g.C.Cells.places c.args.self.now.cells.now) c.in-Goto.label)) record { first = c.at.ensures; steps = refl; labelled = unlabelled _ _ refl }

pub push_statement-returns-in-Continue : goal.push_statement-returns-in-Continue
push_statement-returns-in-Continue g t c = rw (as_form (names_by c.args.self.now.source) (g.C.Cells.places c.args.self.now.cells.now) c.args.s.now form.Continue _ c.in-Continue.is (of_Continue (names_by c.args.self.now.source) (g.C.Cells.places c.args.self.now.cells.now))) record { first = refl; steps = refl; labelled = unlabelled _ _ refl }

pub push_statement-returns-in-Break : goal.push_statement-returns-in-Break
push_statement-returns-in-Break g t c = rw (as_form (names_by c.args.self.now.source) (g.C.Cells.places c.args.self.now.cells.now) c.args.s.now form.Break _ c.in-Break.is (of_Break (names_by c.args.self.now.source) (g.C.Cells.places c.args.self.now.cells.now))) record { first = refl; steps = refl; labelled = unlabelled _ _ refl }

pub push_statement-returns-in-Return : goal.push_statement-returns-in-Return
push_statement-returns-in-Return g t c = rw (as_form (names_by c.args.self.now.source) (g.C.Cells.places c.args.self.now.cells.now) c.args.s.now (form.Return c.in-Return.e) _ c.in-Return.is (of_Return (names_by c.args.self.now.source) (g.C.Cells.places c.args.self.now.cells.now) c.in-Return.e)) (only_added _ _ _ _ _ c.push_return.ensures refl (no_label_in_return (names_by c.args.self.now.source) c.args.go _ _ (part_of (names_by c.args.self.now.source) c.in-Return.e)))

pub push_item-returns-in-Declare : goal.push_item-returns-in-Declare
push_item-returns-in-Declare g t c = rw (of_item_Declare (names_by c.args.self.now.source) (g.C.Cells.places c.args.self.now.cells.now) c.args.item.now c.in-Declare.list c.in-Declare.is, sym c.list.ensures) (only_added _ _ _ _ _ c.push_inits.ensures refl (no_label_in_inits (names_by c.args.self.now.source) (g.C.Cells.places c.args.self.now.cells.now) c.list.result.now c.args.go))

pub push_item-returns-in-Stmt : goal.push_item-returns-in-Stmt
push_item-returns-in-Stmt g t c = rw (of_item_Stmt (names_by c.args.self.now.source) (g.C.Cells.places c.args.self.now.cells.now) c.args.item.now c.in-Stmt.s c.in-Stmt.is) c.push_statement.ensures

pub push_else-returns-in-Some : goal.push_else-returns-in-Some
push_else-returns-in-Some g t c = rw (c.in-Some.is, sym c.get.ensures) c.push_statement.ensures

pub push_else-returns-in-None : goal.push_else-returns-in-None
push_else-returns-in-None g t c = rw c.in-None.is record { first = refl; steps = refl; labelled = unlabelled _ _ refl }

pub push_items-loop-k-preserved : goal.push_items-loop-k-preserved
push_items-loop-k-preserved g t c =
    let flow = item_by c.args.self.now.source (g.C.Cells.places c.args.self.now.cells.now) in
    let turn = from_end c.args.items.now c.loop-k.k _ c.index-items-items.result c.loop-k-test.true refl c.index-items-items.is in record {
      next = next_first flow c.args.go _ _ c.index-items-items.result turn c.to.result c.loop-k.next c.to.ensures c.loop-k.invariant.next _ c.in_ok-next.ensures.first;
      steps = next_steps flow c.args.go _ _ c.index-items-items.result turn c.to.result c.loop-k.next c.to.ensures c.loop-k.invariant.next _ _ _ c.loop-k.invariant.steps c.in_ok-next.ensures.steps;
      labelled = next_labelled flow c.args.go _ _ c.index-items-items.result turn c.to.result c.loop-k.next c.to.ensures c.loop-k.invariant.next _ _ _ c.loop-k.invariant.labelled c.in_ok-next.ensures.labelled;
    }
