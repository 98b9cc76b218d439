use Rattle.std.proofs.Common.{subst}
use Rattle.lk_facts.specs.Facts.{FactTable, basis_of}
use Rattle.lk_order.specs.Table.{IsOrder}
use Rattle.lk_sets.specs.Ids.{has_id}
use Rattle.lk_top.proofs.ordering.order_of.Goals as goal

pub returns : goal.returns
returns c =
    let linear = has_id c.in_ok-linear.linear in
    let order = c.in_ok-order.order in
    record {
      labels = c.args.labels.now;
      are_labels = c.requires.labels;
      in_range = c.count.ensures.in_range;
      origins = c.in_ok-origins.origins;
      flow = c.in_ok-origins.ensures;
      linear = linear;
      is_linear = c.in_ok-linear.ensures;
      follows = subst (λ (f : FactTable). IsOrder (basis_of f) linear order) c.new-facts.ensures c.in_ok-order.ensures;
    }
