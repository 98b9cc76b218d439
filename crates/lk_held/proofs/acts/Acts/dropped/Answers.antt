use Rattle.lk_held.specs.Acts.{basis_in}
use Rattle.lk_held.proofs.ReleasingLemmas.{dropped_more}
use Rattle.lk_held.proofs.acts.Acts.dropped.Goals as goal

pub loop-point-preserved : goal.loop-point-preserved
loop-point-preserved c =
    dropped_more (basis_in c.args.self.now) c.args.released.now c.loop-point.point c.loop-point.dropped.items c.push.new.self.items c.in_ok-drops.field-0 c.requires.released
    c.in_ok-push.ensures.items c.in_ok-drops.ensures.members c.in_ok-drops.ensures.in_range c.loop-point.invariant
