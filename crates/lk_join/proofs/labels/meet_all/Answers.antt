use Rattle.lk_join.proofs.Relabelling.{all_none, all_more}
use Rattle.lk_join.proofs.labels.meet_all.Goals as goal

pub loop-before-init : goal.loop-before-init
loop-before-init c = all_none c.args.units.now c.args.structs.now c.args.labels.now.items c.args.place

pub loop-before-preserved : goal.loop-before-preserved
loop-before-preserved c =
    all_more c.args.units.now c.args.structs.now c.args.labels.now.items c.loop-before.labels.items c.meet.new.labels.items c.loop-before.before c.args.place c.requires.size c.loop-before.invariant c.in_ok-meet.ensures
