use Rattle.lk_graph.proofs.OrderLemmas.{none_below}
use Rattle.lk_graph.proofs.walk.with_others.Goals as goal

pub loop-a-init : goal.loop-a-init
loop-a-init c = none_below c.args.marks.now c.args.order.items c.requires.marked
