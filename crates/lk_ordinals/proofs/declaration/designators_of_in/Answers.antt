use Rattle.std.proofs.Common.{arith}
use Rattle.lk_tree.specs.Numbers as spec
use Rattle.lk_ordinals.proofs.Rows.{ended}
use Rattle.lk_ordinals.proofs.declaration.designators_of_in.Goals as goal

pub returns : goal.returns
returns c = ended spec.of_designator c.args.tree.now c.args.first c.loop-i.tree c.loop-i.i c.loop-i.next c.loop-i.invariant (omega arith)
