use Rattle.lk_label.proofs.WalkSteps.{next_facts, walking_more, walking_ends}
use Rattle.lk_label.proofs.walk.walk_nodes.Goals as goal

pub visit-requires-clause-node : goal.visit-requires-clause-node
visit-requires-clause-node c = (next_facts c.args.types.now c.in-Some.node c.loop.invariant c.in-Some.ensures).0

pub visit-requires-clause-new : goal.visit-requires-clause-new
visit-requires-clause-new c = (next_facts c.args.types.now c.in-Some.node c.loop.invariant c.in-Some.ensures).1

pub returns-in-None : goal.returns-in-None
returns-in-None c = walking_ends c.args.types.now c.loop.invariant c.in-None.ensures

pub loop-preserved : goal.loop-preserved
loop-preserved c = walking_more c.args.types.now c.in-Some.node c.loop.invariant c.in-Some.ensures c.in_ok-visit-in-Some.ensures
