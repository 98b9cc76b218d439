use Rattle.lk_graph.specs.Again.{GoesInto}
use Rattle.lk_graph.proofs.FoundLemmas.{finds_each_all, finds_each_more, finds_each_none}
use Rattle.lk_graph.proofs.again.enter.Goals as goal

pub loop-entering-init : goal.loop-entering-init
loop-entering-init c = finds_each_none (GoesInto c.args.function) c.args.enterings.now c.args.again.now

pub loop-entering-preserved : goal.loop-entering-preserved
loop-entering-preserved c =
    finds_each_more (GoesInto c.args.function) c.args.enterings.now c.loop-entering.entering-index _ c.args.again.now c.loop-entering.again c.enter_by.new.again c.loop-entering-test.true
    c.loop-entering.invariant c.in_ok-enter_by.ensures

pub returns : goal.returns
returns c = finds_each_all (GoesInto c.args.function) c.args.enterings.now c.loop-entering.entering-index c.args.again.now c.loop-entering.again c.loop-entering-test.false c.loop-entering.invariant
