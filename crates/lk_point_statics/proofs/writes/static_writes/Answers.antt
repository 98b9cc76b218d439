use Rattle.std.proofs.Common.{rules}
use Rattle.lk_point_statics.proofs.Beginning.{all_writes, no_writes}
use Rattle.lk_point_statics.proofs.writes.static_writes.Goals as goal

pub loop-p-init : goal.loop-p-init
loop-p-init c = no_writes c.args.points.now _ (search rules)

pub returns-clause-writes : goal.returns-clause-writes
returns-clause-writes c =
    all_writes c.args.points.now c.loop-p.p c.loop-p.writes.items (rw c.count-p-end.ensures.value at c.loop-p-test.false) c.loop-p.invariant
