use Rattle.lk_sets.proofs.Adding.{adds_each_read, adds_each_all, adds_to_none}
use Rattle.lk_origin.specs.Inflows.{Enters}
use Rattle.lk_origin.proofs.inflow.unsorted.Goals as goal

pub loop-entrance-preserved : goal.loop-entrance-preserved
loop-entrance-preserved c =
    adds_each_read (Enters c.args.levels.now) c.args.entrances.now c.loop-entrance.entrance-index c.entrance-item.result c.loop-entrance-test.true c.entrance-item.is c.loop-entrance.invariant c.in_ok-push_inflows.ensures

pub returns : goal.returns
returns c = adds_to_none c.new-all.ensures.items (adds_each_all (Enters c.args.levels.now) c.args.entrances.now c.loop-entrance.entrance-index c.loop-entrance-test.false c.loop-entrance.invariant)
