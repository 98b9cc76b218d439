use Rattle.lk_types.specs.declared.node.Base.TheVariants.{Tag}
use Rattle.lk_types.proofs.NodeLemmas.{first_node, first_is_node}
use Rattle.lk_types.proofs.table.TypeTable.tag_node.Goals as goal

pub returns-clause-node : goal.returns-clause-node
returns-clause-node c = first_is_node c.args.self.now (Tag c.args.t) c.requires

pub returns-clause-first : goal.returns-clause-first
returns-clause-first c = first_node c.args.self.now (Tag c.args.t)
