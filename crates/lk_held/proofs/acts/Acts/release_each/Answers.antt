use Rattle.std.proofs.Common.{◌≡◌, length, subst, sym, true}
use Rattle.std.proofs.lemmas.List.{take_all}
use Rattle.lk_held.specs.Releasing.{Gains, HasReleased, room}
use Rattle.lk_held.specs.Acts.{basis_in}
use Rattle.lk_sets.specs.Ids.{has_id}
use Rattle.lk_held.proofs.ProgressLemmas.{progress_listed, progress_weaker}
use Rattle.lk_held.proofs.ReleasingLemmas.{gains_more}
use Rattle.lk_links.proofs.SetLemmas.{has_id-at}
use Rattle.lk_held.proofs.acts.Acts.release_each.Goals as goal

pub release-requires-clause-point : goal.release-requires-clause-point
release-requires-clause-point c = (c.requires.order _).0 (has_id-at c.args.order.now c.loop-point.point-index 0 c.loop-point-test.true)

pub loop-point-preserved : goal.loop-point-preserved
loop-point-preserved c =
    let self = c.args.self.now in
    let basis = basis_in self in
    progress_listed (room (length basis.labels.entries)) (Gains basis) (HasReleased basis) c.args.order.now c.loop-point.point-index 0 c.loop-point-test.true
    c.args.released.now.items c.loop-point.released.items c.release.new.released.items c.loop-point.changed c.in_ok-changed.field-0
    (gains_more basis _ _ _) c.loop-point.invariant c.in_ok-changed.ensures

pub returns : goal.returns
returns c =
    let self = c.args.self.now in
    let basis = basis_in self in
    progress_weaker (room (length basis.labels.entries)) (Gains basis) _ _ c.args.released.now.items c.loop-point.released.items c.loop-point.changed
    (λ done p within. done p (subst (λ order. has_id order p ≡ true) (sym (take_all c.loop-point.point-index c.args.order.now c.loop-point-test.false)) ((c.requires.order p).1 within)))
    c.loop-point.invariant
