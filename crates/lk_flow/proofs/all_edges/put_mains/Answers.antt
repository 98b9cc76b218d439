use Rattle.std.proofs.Common.{arith}
use Rattle.lk_flow.specs.Counting.{MainAt}
use Rattle.lk_flow.proofs.ActionLists.{mains_below}
use Rattle.lk_flow.proofs.Counting.{upto_none, upto_more, upto_all}
use Rattle.lk_flow.proofs.all_edges.put_mains.Goals as goal

pub loop-r-init : goal.loop-r-init
loop-r-init c = upto_none c.args.labels.now.names (MainAt c.args.points.now) c.args.found.now

pub loop-r-preserved : goal.loop-r-preserved
loop-r-preserved c = upto_more c.args.labels.now.names (MainAt c.args.points.now) c.loop-r.r c.args.found.now c.loop-r.found c.put_main.new.found c.loop-r.invariant c.in_ok-put_main.ensures

pub returns : goal.returns
returns c =
    upto_all c.args.labels.now.names (MainAt c.args.points.now) c.loop-r.r c.args.found.now c.loop-r.found
    (λ k u v m is. (let below = mains_below c.args.points.now c.args.labels.now.names k u v m is in omega (arith, below, c.loop-r-test.false, c.roots-r-end.ensures))) c.loop-r.invariant
