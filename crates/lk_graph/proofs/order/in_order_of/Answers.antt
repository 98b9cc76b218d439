use Rattle.lk_graph.proofs.OrderLemmas.{reversed_all}
use Rattle.lk_graph.proofs.order.in_order_of.Goals as goal

pub returns : goal.returns
returns c = reversed_all _ _ _ _ c.reverse.ensures.permutation c.in_ok-steps.ensures.size c.in_ok-order.ensures
