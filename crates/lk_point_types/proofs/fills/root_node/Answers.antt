use Rattle.std.proofs.Common.{refl}
use Rattle.lk_point_types.proofs.fills.root_node.Goals as goal

pub returns-clause-start : goal.returns-clause-start
returns-clause-start c = (
  c.root.result.now.ty,
  (c.root.result.now, c.root.ensures.value, refl),
  record { node = rw c.types.ensures at c.start_node.ensures.node; first = rw c.types.ensures at c.start_node.ensures.first },
)
