use Rattle.std.proofs.Common.{arith}
use Rattle.lk_flow.specs.Counting.{RowAt}
use Rattle.lk_flow.proofs.ActionLists.{rows_below}
use Rattle.lk_flow.proofs.Counting.{upto_none, upto_more, upto_all}
use Rattle.lk_flow.proofs.all_edges.put_rows.Goals as goal

pub loop-p-init : goal.loop-p-init
loop-p-init c = upto_none c.args.labels.now.names (RowAt c.args.points.now) c.args.found.now

pub loop-p-preserved : goal.loop-p-preserved
loop-p-preserved c = upto_more c.args.labels.now.names (RowAt c.args.points.now) c.loop-p.p c.args.found.now c.loop-p.found c.put_row.new.found c.loop-p.invariant c.in_ok-put_row.ensures

pub returns : goal.returns
returns c =
    upto_all c.args.labels.now.names (RowAt c.args.points.now) c.loop-p.p c.args.found.now c.loop-p.found
    (λ k u v m is. (let below = rows_below c.args.points.now c.args.labels.now.names k u v m is in omega (arith, below, c.loop-p-test.false, c.count-p-end.ensures.value))) c.loop-p.invariant
