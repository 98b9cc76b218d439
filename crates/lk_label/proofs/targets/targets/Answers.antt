use Rattle.std.proofs.Common.{◌≡◌, ◌+◌, length, subst, sym, arith}
use Rattle.lk_label.specs.Listing.{AreTargets}
use Rattle.lk_label.proofs.EntryLists.{targets_none, targets_more}
use Rattle.lk_label.proofs.targets.targets.Goals as goal

pub loop-p-init : goal.loop-p-init
loop-p-init c = subst (AreTargets c.args.points.now c.args.names.now 0) (sym c.new-targets.ensures.items) (targets_none c.args.points.now c.args.names.now)

pub loop-p-preserved : goal.loop-p-preserved
loop-p-preserved c =
    subst (AreTargets c.args.points.now c.args.names.now (c.loop-p.p + 1)) (sym c.in_ok-push.ensures.items) (targets_more c.args.points.now c.args.names.now c.loop-p.p c.loop-p.targets.items c.target_of.result c.loop-p.invariant c.target_of.ensures)

pub returns : goal.returns
returns c =
    let all : c.loop-p.p ≡ length c.args.points.now.points = omega (arith, c.loop-p-test.false, c.loop-p.auto.p-end, c.count-p-end.ensures.value) in
    subst (λ n. AreTargets c.args.points.now c.args.names.now n c.loop-p.targets.items) all c.loop-p.invariant
