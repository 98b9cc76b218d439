use Rattle.std.proofs.Common.{◌∙◌, ap, rules, arith}
use Rattle.std.proofs.lemmas.Grind.{common_steps}
use Rattle.lk_tree.specs.declared.statement.StmtForm.TheVariants as form
use Rattle.lk_typed.specs.Labels.{labels}
use Rattle.lk_labels.proofs.Labelling.{labels_of_block, labels_of_if}
use Rattle.lk_labels.proofs.Listing.{declaration_put, one_put, statement_put}
use Rattle.lk_labels.proofs.Putting.{put_both}
use Rattle.lk_labels.proofs.collecting.+labels.Goals as goal
use Rattle.lk_labels.proofs.collecting.+labels.Goals.{put_items-in-Declare, put_items-in-Stmt+in_ok-put_labels-in-Stmt}

pub put_items-loop-item-preserved : goal.put_items-loop-item-preserved
put_items-loop-item-preserved t c =
    let put = one_put c.args.out.now c.loop-item.out c.match-item.out c.args.items.now c.loop-item.item-index c.item-item.result c.loop-item-test.true c.item-item.is c.loop-item.invariant in
    put
    (elim c.match-item.branch [
      | put_items-in-Declare w ↦ declaration_put c.loop-item.out c.match-item.out c.item-item.result _ w.in-Declare.is w.out-is
      | put_items-in-Stmt+in_ok-put_labels-in-Stmt w ↦ statement_put c.loop-item.out c.match-item.out c.item-item.result w.in-Stmt.inner w.in-Stmt.is (w.out-is ∙ w.in_ok-put_labels-in-Stmt.ensures)
    ])

pub put_labels-returns-in-Block : goal.put_labels-returns-in-Block
put_labels-returns-in-Block t c = rw (labels_of_block c.args.s.now c.in-Block.items c.in-Block.is) (search rules)

pub put_labels-returns-in-Some : goal.put_labels-returns-in-Some
put_labels-returns-in-Some t c =
    rw (
      labels_of_if c.args.s.now c.in-If.field-0 c.in-If.taken c.in-Some.other (c.in-If.is ∙ ap (form.If c.in-If.field-0 c.in-If.taken) c.in-Some.is),
      put_both c.args.out.now (labels c.in-If.taken) (labels c.in-Some.other),
    ) (grind (arith, common_steps))
