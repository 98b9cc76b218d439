use Rattle.std.proofs.Common.{◌∙◌, ap}
use Rattle.lk_top.specs.Orders.{status_of_order}
use Rattle.lk_top.proofs.NoCircles.{no_circle}
use Rattle.lk_top.proofs.ordering.ordered.Goals as goal

pub returns : goal.returns
returns c =
    let order = c.in_ok-order.order in
    let has = c.in_ok-order.ensures in
    record {
      order = order;
      has = has;
      text_is = c.in_ok-text.ensures;
      status = c.status_of_order-status.ensures ∙ ap status_of_order c.is_cyclic.ensures;
      no_circle = no_circle c.args.points.now order c.requires.in_range c.requires.table c.requires.lowered has c.order_excludes_circles.ensures;
    }
