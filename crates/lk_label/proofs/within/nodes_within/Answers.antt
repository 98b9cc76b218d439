use Rattle.std.proofs.Common.{refl, true, arith}
use Rattle.lk_label.proofs.Inside.{found_first, found_more, found_all, within_node}
use Rattle.lk_label.proofs.NodeLists.{start_put}
use Rattle.lk_label.proofs.WalkSteps.{contains_got}
use Rattle.lk_label.proofs.within.nodes_within.Goals as goal

pub loop-k-init : goal.loop-k-init
loop-k-init c =
    found_first c.args.types.now c.args.t c.put.new.self (start_put c.args.types.now c.args.t true c.start_node.result c.new-found.result c.put.new.self refl c.new-found.ensures c.start_node.ensures.node c.start_node.ensures.first c.in_ok-put.ensures)

pub put_inner-requires : goal.put_inner-requires
put_inner-requires c = within_node c.args.types.now c.args.t c.at-node.result (c.loop-k.invariant.only c.at-node.result (contains_got c.loop-k.found c.loop-k.k c.at-node.result c.at-node.ensures))

pub loop-k-preserved : goal.loop-k-preserved
loop-k-preserved c = found_more c.args.types.now c.args.t c.loop-k.k c.at-node.result c.loop-k.found c.put_inner.new.found c.at-node.ensures c.loop-k.invariant c.in_ok-put_inner.ensures

pub returns-then-k-len : goal.returns-then-k-len
returns-then-k-len c = found_all c.args.types.now c.args.t c.loop-k.k c.loop-k.found (omega (arith, c.if-k-len.true, c.len.ensures.value)) c.loop-k.invariant
