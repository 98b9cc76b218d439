use Rattle.std.proofs.Common.{◌+◌, sym, subst}
use Rattle.lk_join.specs.Labels.{AreOwn}
use Rattle.lk_join.proofs.Relabelling.{own_more}
use Rattle.lk_join.proofs.labels.first_labels.Goals as goal

pub loop-place-preserved : goal.loop-place-preserved
loop-place-preserved c =
    let n = c.loop-place.place in
    subst (AreOwn (n + 1)) (sym c.in_ok-push.ensures.items) (own_more n c.loop-place.labels.items c.loop-place.invariant)
