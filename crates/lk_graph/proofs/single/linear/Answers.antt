use Rattle.std.proofs.Common.{◌≤◌, length, subst, arith}
use Rattle.lk_sets.specs.Ids.{has_id, IsSetOf}
use Rattle.lk_graph.proofs.FoundLemmas.{below_more}
use Rattle.lk_graph.proofs.SingleLemmas.{linear_all}
use Rattle.lk_graph.specs.Single.{IsLinearAt}
use Rattle.lk_graph.proofs.single.linear.Goals as goal

pub loop-place-preserved : goal.loop-place-preserved
loop-place-preserved c =
    below_more (IsLinearAt c.args.points.now) c.loop-place.place c.loop-place.ids.items c.push_linear.new.ids.items c.in_ok-push_linear.ensures c.loop-place.invariant

pub returns : goal.returns
returns c =
    let all : length c.args.points.now.places ≤ c.loop-place.place =
    omega (arith, c.loop-place-test.false, c.locations.ensures.value, c.locations.ensures.few, c.locks.ensures.value) in
    linear_all c.args.points.now c.loop-place.place c.loop-place.ids.items c.in_ok-linear.linear all c.loop-place.invariant
    (subst (λ ids. IsSetOf (has_id ids) c.in_ok-linear.linear) c.deref.ensures.value c.in_ok-linear.ensures)
