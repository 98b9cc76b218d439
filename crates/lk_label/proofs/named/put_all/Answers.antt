use Rattle.std.proofs.Common.{◌++◌, ◌∷◌, [], ◌∙◌, ap, sym, subst, take}
use Rattle.std.proofs.lemmas.List.{take_all, take_more}
use Rattle.lk_label.specs.Naming.{AreJoined}
use Rattle.lk_label.proofs.NodeLists.{joined_none, joined_more}
use Rattle.lk_label.proofs.named.put_all.Goals as goal

pub loop-node-init : goal.loop-node-init
loop-node-init c = joined_none c.args.found.now

pub loop-node-preserved : goal.loop-node-preserved
loop-node-preserved c =
    let nodes = c.args.nodes.now in
    let i = c.loop-node.node-index in
    let n = c.node-item.result in
    subst (λ xs. AreJoined c.args.found.now xs c.put.new.self) (sym (take_more nodes i n c.loop-node-test.true ∙ ap (λ x. take i nodes ++ x ∷ []) (sym c.node-item.is)))
    (joined_more c.args.found.now c.loop-node.found c.put.new.self (take i nodes) c.loop-node.invariant c.in_ok-put.ensures)

pub returns : goal.returns
returns c = subst (λ xs. AreJoined c.args.found.now xs c.loop-node.found) (take_all c.loop-node.node-index c.args.nodes.now c.loop-node-test.false) c.loop-node.invariant
