use Rattle.lk_point_types.proofs.Filling.{one_step, stepped}
use Rattle.lk_point_types.proofs.fills.part_behind.Goals as goal

pub returns-clause-steps : goal.returns-clause-steps
returns-clause-steps c =
    stepped c.args.points.now.types c.args.node c.args.sel c.step_node.result (rw c.types.ensures at c.step_node.ensures.exact) (rw c.types.ensures at c.step_node.ensures.node)

pub returns-clause-only : goal.returns-clause-only
returns-clause-only c =
    one_step c.args.points.now.types c.args.node c.args.sel c.step_node.result (rw c.types.ensures at c.step_node.ensures.exact) (rw c.types.ensures at c.step_node.ensures.node)
