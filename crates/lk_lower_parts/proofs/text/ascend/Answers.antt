use Rattle.std.proofs.Common.{arith, rules}
use Rattle.lk_lower_parts.proofs.Ordered.{ascend_more}
use Rattle.lk_lower_parts.proofs.text.ascend.Goals as goal

pub loop-k-preserved : goal.loop-k-preserved
loop-k-preserved c =
    ascend_more c.args.roots.now c.args.places.now 0 c.loop-k.k c.index-places-k.result c.index-places-k-in-loop-k.result c.index-places-k.is c.index-places-k-in-loop-k.is (search rules) (omega arith) c.loop-k.invariant
