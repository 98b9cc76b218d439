use Rattle.lk_sets.proofs.Adding.{adds_each_none, adds_each_read, adds_each_all, adds_to_none}
use Rattle.lk_origin.specs.Arrows.{IsAlong}
use Rattle.lk_origin.proofs.arrows.along.Goals as goal

pub loop-summary-init : goal.loop-summary-init
loop-summary-init c = adds_each_none IsAlong c.args.summaries.now c.new-arrows.result.items

pub loop-summary-preserved : goal.loop-summary-preserved
loop-summary-preserved c =
    adds_each_read IsAlong c.args.summaries.now c.loop-summary.summary-index c.summary-item.result c.loop-summary-test.true c.summary-item.is c.loop-summary.invariant c.in_ok-push_along.ensures

pub returns : goal.returns
returns c = adds_to_none c.new-arrows.ensures.items (adds_each_all IsAlong c.args.summaries.now c.loop-summary.summary-index c.loop-summary-test.false c.loop-summary.invariant)
