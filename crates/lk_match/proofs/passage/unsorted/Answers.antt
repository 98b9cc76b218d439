use Rattle.lk_sets.proofs.Adding.{adds_each_read, adds_each_all, adds_to_none}
use Rattle.lk_match.specs.Passages.{IsPassage}
use Rattle.lk_match.proofs.passage.unsorted.Goals as goal

pub loop-edge-preserved : goal.loop-edge-preserved
loop-edge-preserved c =
    adds_each_read (IsPassage c.args.side) c.args.edges.now c.loop-edge.edge-index c.edge-item.result c.loop-edge-test.true c.edge-item.is c.loop-edge.invariant c.in_ok-push_passage.ensures

pub returns : goal.returns
returns c = adds_to_none c.new-all.ensures.items (adds_each_all (IsPassage c.args.side) c.args.edges.now c.loop-edge.edge-index c.loop-edge-test.false c.loop-edge.invariant)
