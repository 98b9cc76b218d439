use Rattle.std.proofs.Common.{arith}
use Rattle.lk_ordinals.specs.Parts as part
use Rattle.lk_ordinals.proofs.Rows.{ended_list}
use Rattle.lk_ordinals.proofs.declaration.+initialisers.Goals as goal

pub entries_of_in-returns : goal.entries_of_in-returns
entries_of_in-returns t c = ended_list part.entry c.args.tree.now c.args.first c.loop-i.tree c.loop-i.i c.loop-i.next c.loop-i.invariant.0 (omega arith)
