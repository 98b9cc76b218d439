use Rattle.std.proofs.Common.{subst, arith}
use Rattle.lk_join.specs.Labels.{AreOwn}
use Rattle.lk_join.proofs.Relabelling.{below_own, below_more, below_all}
use Rattle.lk_join.proofs.labels.labels.Goals as goal

pub loop-place-init : goal.loop-place-init
loop-place-init c = below_own c.args.units.now c.args.structs.now c.in_ok-labels.labels.items (subst (λ n. AreOwn n c.in_ok-labels.labels.items) c.len.ensures.value c.in_ok-labels.ensures)

pub loop-place-preserved : goal.loop-place-preserved
loop-place-preserved c =
    below_more c.args.units.now c.args.structs.now c.loop-place.labels.items c.meet_all.new.labels.items c.loop-place.place c.loop-place.invariant c.in_ok-meet_all.ensures

pub returns : goal.returns
returns c =
    let count = c.len-place-end.ensures.value in
    let test = c.loop-place-test.false in
    below_all c.args.units.now c.args.structs.now c.loop-place.labels.items c.loop-place.place c.len-place-end.ensures.distinct (omega (arith, count, test)) c.loop-place.invariant
