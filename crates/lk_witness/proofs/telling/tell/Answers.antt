use Rattle.std.proofs.Common.{◌+◌, refl}
use Rattle.lk_witness.proofs.Told.{adds_shown, adds_none}
use Rattle.lk_witness.proofs.telling.tell.Goals as goal

pub returns-then-branch-clause-adds : goal.returns-then-branch-clause-adds
returns-then-branch-clause-adds c =
    adds_shown c.args.files.now c.args.points.now c.args.location c.args.told.now
    (record { text = c.push_told.new.out; shown = c.args.told.now.shown + 1 }) c.args.schedule.now
    (c.in_ok-shows.ensures c.if-branch.true) c.in_ok-push_told.ensures refl

pub returns-clause-adds : goal.returns-clause-adds
returns-clause-adds c =
    adds_none c.args.files.now c.args.points.now c.args.location c.args.told.now
    (record { text = c.push_told-2.new.out; shown = c.args.told.now.shown }) c.in_ok-push_told-2.ensures refl
