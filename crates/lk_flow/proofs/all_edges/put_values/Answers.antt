use Rattle.std.proofs.Common.{arith}
use Rattle.lk_flow.specs.Counting.{ValueAt}
use Rattle.lk_flow.proofs.ActionLists.{values_below}
use Rattle.lk_flow.proofs.Counting.{upto_none, upto_more, upto_all}
use Rattle.lk_flow.proofs.all_edges.put_values.Goals as goal

pub loop-g-init : goal.loop-g-init
loop-g-init c = upto_none c.args.labels.now.names (ValueAt c.args.points.now) c.args.found.now

pub loop-g-preserved : goal.loop-g-preserved
loop-g-preserved c = upto_more c.args.labels.now.names (ValueAt c.args.points.now) c.loop-g.g c.args.found.now c.loop-g.found c.put_value.new.found c.loop-g.invariant c.in_ok-put_value.ensures

pub returns : goal.returns
returns c =
    upto_all c.args.labels.now.names (ValueAt c.args.points.now) c.loop-g.g c.args.found.now c.loop-g.found
    (λ k u v m is. (let below = values_below c.args.points.now c.args.labels.now.names k u v m is in omega (arith, below, c.loop-g-test.false, c.functions-g-end.ensures))) c.loop-g.invariant
