use Rattle.std.proofs.Common.{arith}
use Rattle.lk_play.proofs.Racing.{no_more, no_other}
use Rattle.lk_play.proofs.races.has_other.Goals as goal

pub loop-other-preserved : goal.loop-other-preserved
loop-other-preserved c =
    no_more c.args.touches.now c.args.thread c.args.cell.now c.loop-other.other c.loop-other.invariant c.is_other.result c.is_other.ensures.no c.if-is_other.false

pub returns-clause-no : goal.returns-clause-no
returns-clause-no c = λ has. absurd (no_other c.args.touches.now c.args.thread c.args.cell.now c.loop-other.other (omega arith) c.loop-other.invariant has)
