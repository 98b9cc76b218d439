use Rattle.lk_sets.proofs.Adding.{adds_each_more, adds_each_all, adds_to_none}
use Rattle.lk_origin.specs.Inflows.{IsOutside}
use Rattle.lk_origin.proofs.InflowLemmas.{outside_of_label}
use Rattle.lk_origin.proofs.inflow.outside_at.Goals as goal

pub loop-inflow-preserved : goal.loop-inflow-preserved
loop-inflow-preserved c =
    adds_each_more IsOutside c.of_label-inflow-items.result.now c.loop-inflow.inflow-index (record { inside = 0; outside = 0 }) c.loop-inflow-test.true c.loop-inflow.invariant c.in_ok-push_outside.ensures

pub returns-clause-each : goal.returns-clause-each
returns-clause-each c =
    let here = c.of_label-inflow-items.result.now in
    let adds = adds_each_all IsOutside here c.loop-inflow.inflow-index c.loop-inflow-test.false c.loop-inflow.invariant in
    outside_of_label c.args.all.now here c.args.label c.loop-inflow.list.items c.deref.result.now c.in_ok-ids.ids c.of_label-inflow-items.ensures (adds_to_none c.new-list.ensures.items adds) c.deref.ensures.value c.in_ok-ids.ensures.each
