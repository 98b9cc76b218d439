use Rattle.std.proofs.Common.{◌≡◌, ℕ, [], true, subst, sym}
use Rattle.std.proofs.lemmas.Bool.{false≢true}
use Rattle.std.proofs.lemmas.List.{take_all}
use Rattle.lk_held.proofs.ProgressLemmas.{progress_listed, progress_none, progress_weaker}
use Rattle.lk_held.specs.Releasing.{room}
use Rattle.lk_links.proofs.SetLemmas.{has_id-at}
use Rattle.lk_order.specs.Acquiring.{Grows, HasAll}
use Rattle.lk_order.specs.Acts.{basis_in, linear_in, points_in, labels_in}
use Rattle.lk_order.proofs.AcquiringLemmas.{grows_among, grows_more, none_grows}
use Rattle.lk_sets.specs.Ids.{has_id}
use Rattle.lk_order.proofs.acts.Acts.add_each.Goals as goal

pub loop-point-init : goal.loop-point-init
loop-point-init c =
    let self = c.args.self.now in
    record {
      sets = c.requires.sets;
      progress = progress_none (room (labels_in self)) (Grows (basis_in self) c.args.points.now c.args.more.now (points_in self) (labels_in self)) (λ sets. (p : ℕ) → has_id [] p ≡ true → HasAll (basis_in self) c.args.more.now p sets) c.args.acquired.now.items
          (none_grows (basis_in self) (linear_in self) c.args.points.now c.args.more.now c.args.acquired.now.items) (λ p there. absurd (false≢true there));
    }

pub loop-point-preserved : goal.loop-point-preserved
loop-point-preserved c =
    let self = c.args.self.now in
    let basis = basis_in self in
    let points = c.args.points.now in
    let more = c.args.more.now in
    record {
      sets = c.in_ok-changed.ensures.keeps.sets c.loop-point.invariant.sets;
      progress = progress_listed (room (labels_in self)) (Grows basis points more (points_in self) (labels_in self)) (HasAll basis more) points c.loop-point.point-index 0 c.loop-point-test.true
          c.args.acquired.now.items c.loop-point.acquired.items c.add_live.new.acquired.items c.loop-point.changed c.in_ok-changed.field-0
          (grows_more basis (linear_in self) points more _ _ _) c.loop-point.invariant.progress
          (grows_among basis (linear_in self) points more _ c.loop-point.acquired.items c.add_live.new.acquired.items (HasAll basis more _) c.in_ok-changed.field-0 (has_id-at points c.loop-point.point-index 0 c.loop-point-test.true) c.in_ok-changed.ensures);
    }

pub returns : goal.returns
returns c =
    let self = c.args.self.now in
    progress_weaker (room (labels_in self)) (Grows (basis_in self) c.args.points.now c.args.more.now (points_in self) (labels_in self)) _ _ c.args.acquired.now.items c.loop-point.acquired.items c.loop-point.changed
    (λ done p there. done p (subst (λ points. has_id points p ≡ true) (sym (take_all c.loop-point.point-index c.args.points.now c.loop-point-test.false)) there))
    c.loop-point.invariant.progress
