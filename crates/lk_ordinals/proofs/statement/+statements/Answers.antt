use Rattle.std.proofs.Common.{arith}
use Rattle.lk_ordinals.specs.Parts as part
use Rattle.lk_ordinals.proofs.Rows.{ended_list}
use Rattle.lk_ordinals.proofs.statement.+statements.Goals as goal

pub block_items_in-returns : goal.block_items_in-returns
block_items_in-returns t c = ended_list part.block_item c.args.tree.now c.args.first c.loop-i.tree c.loop-i.i c.loop-i.next c.loop-i.invariant.0 (omega arith)
