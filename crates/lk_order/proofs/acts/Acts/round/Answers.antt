use Rattle.std.proofs.Common.{◌≡◌, true, subst, sym}
use Rattle.std.proofs.lemmas.List.{take_all}
use Rattle.lk_order.specs.Acts.{basis_in}
use Rattle.lk_order.specs.Dropping.{Loses, HasPassed}
use Rattle.lk_order.specs.Left.{left_weight}
use Rattle.lk_sets.specs.Ids.{has_id}
use Rattle.lk_order.proofs.DroppingLemmas.{loses_more}
use Rattle.lk_held.proofs.ProgressLemmas.{progress_listed, progress_weaker}
use Rattle.lk_links.proofs.SetLemmas.{has_id-at}
use Rattle.lk_order.proofs.acts.Acts.round.Goals as goal

pub pass-requires-clause-point : goal.pass-requires-clause-point
pass-requires-clause-point c = (c.requires.order _).0 (has_id-at c.args.order.now c.loop-point.point-index 0 c.loop-point-test.true)

pub loop-point-preserved : goal.loop-point-preserved
loop-point-preserved c =
    let basis = basis_in c.args.self.now in
    progress_listed left_weight (Loses basis) (HasPassed basis) c.args.order.now c.loop-point.point-index 0 c.loop-point-test.true
    c.args.states.now c.loop-point.states c.pass.new.states c.loop-point.changed c.in_ok-changed.field-0
    (loses_more basis _ _ _) c.loop-point.invariant c.in_ok-changed.ensures

pub returns : goal.returns
returns c =
    let basis = basis_in c.args.self.now in
    progress_weaker left_weight (Loses basis) _ _ c.args.states.now c.loop-point.states c.loop-point.changed
    (λ done p within. done p (subst (λ order. has_id order p ≡ true) (sym (take_all c.loop-point.point-index c.args.order.now c.loop-point-test.false)) ((c.requires.order p).1 within)))
    c.loop-point.invariant
