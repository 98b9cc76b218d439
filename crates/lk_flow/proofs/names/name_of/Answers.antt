use Rattle.lk_flow.proofs.NamedLabels.{node_there}
use Rattle.lk_flow.proofs.names.name_of.Goals as goal

pub returns-clause-node : goal.returns-clause-node
returns-clause-node c = node_there c.args.points.now c.args.labels.now c.requires.labels c.args.l c.node.result c.node.ensures
