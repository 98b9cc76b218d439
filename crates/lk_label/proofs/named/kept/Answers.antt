use Rattle.std.proofs.Common.{◌++◌, ◌∷◌, [], ◌∙◌, ap, sym, subst, take}
use Rattle.std.proofs.lemmas.Bool.{both_ways}
use Rattle.std.proofs.lemmas.List.{take_all, take_more}
use Rattle.lk_label.specs.Naming.{AreKept}
use Rattle.lk_label.proofs.NodeLists.{kept_more, kept_over}
use Rattle.lk_label.proofs.named.kept.Goals as goal
use Rattle.lk_label.proofs.named.kept.Goals.{then-has+in_ok-push, else-has}

pub loop-node-preserved : goal.loop-node-preserved
loop-node-preserved c =
    let nodes = c.args.nodes.now in
    let i = c.loop-node.node-index in
    let n = c.node-item.result in
    let others = c.args.others.now in
    let before = c.loop-node.invariant in
    subst (λ xs. AreKept xs others c.if-has.kept.items) (sym (take_more nodes i n c.loop-node-test.true ∙ ap (λ x. take i nodes ++ x ∷ []) (sym c.node-item.is)))
    (elim c.if-has.branch [
      | then-has+in_ok-push w ↦ subst (AreKept (take i nodes ++ n ∷ []) others) (sym (ap (λ v. v.items) w.kept-is ∙ w.in_ok-push.ensures.items)) (kept_more n (c.has.ensures.0 w.if-has.true) before)
      | else-has w ↦ subst (AreKept (take i nodes ++ n ∷ []) others) (sym (ap (λ v. v.items) w.kept-is)) (kept_over n (λ among. both_ways c.has.result w.if-has.false (c.has.ensures.1 among)) before)
    ])

pub returns : goal.returns
returns c = subst (λ xs. AreKept xs c.args.others.now c.loop-node.kept.items) (take_all c.loop-node.node-index c.args.nodes.now c.loop-node-test.false) c.loop-node.invariant
