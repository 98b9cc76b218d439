use Rattle.std.proofs.Common.{◌≡◌, length, subst, sym, true}
use Rattle.std.proofs.lemmas.List.{take_all}
use Rattle.lk_held.specs.Releasing.{room}
use Rattle.lk_held.proofs.ProgressLemmas.{progress_listed, progress_weaker}
use Rattle.lk_links.proofs.SetLemmas.{has_id-at}
use Rattle.lk_order.specs.Acquired.{Acq}
use Rattle.lk_order.specs.Acts.{basis_in, linear_in}
use Rattle.lk_order.specs.Growing.{Gains}
use Rattle.lk_order.specs.Acquiring.{HasAcquired}
use Rattle.lk_order.proofs.GrowingLemmas.{gains_more}
use Rattle.lk_sets.specs.Ids.{has_id}
use Rattle.lk_order.proofs.acts.Acts.acquire_each.Goals as goal

pub acquire-requires-clause-point : goal.acquire-requires-clause-point
acquire-requires-clause-point c = (c.requires.order _).0 (has_id-at c.args.order.now c.loop-point.point-index 0 c.loop-point-test.true)

pub loop-point-preserved : goal.loop-point-preserved
loop-point-preserved c =
    let self = c.args.self.now in
    let basis = basis_in self in
    let P = Acq basis (linear_in self) in
    progress_listed (room (length basis.labels.entries)) (Gains (length basis.program.points) (length basis.labels.entries) P) (HasAcquired basis (linear_in self)) c.args.order.now c.loop-point.point-index 0 c.loop-point-test.true
    c.args.acquired.now.items c.loop-point.acquired.items c.acquire.new.acquired.items c.loop-point.changed c.in_ok-changed.field-0
    (gains_more (length basis.program.points) (length basis.labels.entries) P _ _ _) c.loop-point.invariant c.in_ok-changed.ensures

pub returns : goal.returns
returns c =
    let self = c.args.self.now in
    let basis = basis_in self in
    progress_weaker (room (length basis.labels.entries)) (Gains (length basis.program.points) (length basis.labels.entries) (Acq basis (linear_in self))) _ _ c.args.acquired.now.items c.loop-point.acquired.items c.loop-point.changed
    (λ done p within. done p (subst (λ order. has_id order p ≡ true) (sym (take_all c.loop-point.point-index c.args.order.now c.loop-point-test.false)) ((c.requires.order p).1 within)))
    c.loop-point.invariant
