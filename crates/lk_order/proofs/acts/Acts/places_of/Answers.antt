use Rattle.std.proofs.Common.{◌≡◌, ◌∙◌, All, length, sym, subst, arith}
use Rattle.lk_order.specs.Acts.{basis_in, functions_in, labels_in}
use Rattle.lk_order.specs.Finding.{ArePlacesOf}
use Rattle.lk_order.specs.Pairing.{IsPairBelow}
use Rattle.lk_order.proofs.FindingLemmas.{means_all, means_more, means_none}
use Rattle.lk_order.proofs.acts.Acts.places_of.Goals as goal

pub loop-pair-init : goal.loop-pair-init
loop-pair-init c = means_none (basis_in c.args.self.now) c.as_slice-pair-items.result.now c.in_ok-rows.rows

pub put_places-requires-clause-size : goal.put_places-requires-clause-size
put_places-requires-clause-size c =
    let points = c.args.self.now.points.now in
    let size : c.in_ok-rows.rows.size ≡ length points.places = omega (arith, c.in_ok-rows.ensures.size, c.locations.ensures.value, c.locations.ensures.few, c.locks.ensures.value) in
    c.loop-pair.invariant.size ∙ size

pub put_places-requires-clause-pair : goal.put_places-requires-clause-pair
put_places-requires-clause-pair c =
    let self = c.args.self.now in
    subst (All (IsPairBelow (functions_in self) (labels_in self))) (sym c.as_slice-pair-items.ensures.keys) c.requires c.loop-pair.pair-index _ c.loop-pair-test.true

pub loop-pair-preserved : goal.loop-pair-preserved
loop-pair-preserved c =
    means_more (basis_in c.args.self.now) c.as_slice-pair-items.result.now c.loop-pair.pair-index _ c.in_ok-rows.rows c.loop-pair.rows c.put_places.new.rows c.loop-pair-test.true c.loop-pair.invariant c.in_ok-put_places.ensures

pub returns : goal.returns
returns c =
    let basis = basis_in c.args.self.now in
    let points = c.args.self.now.points.now in
    let size : c.in_ok-rows.rows.size ≡ length points.places = omega (arith, c.in_ok-rows.ensures.size, c.locations.ensures.value, c.locations.ensures.few, c.locks.ensures.value) in
    subst (λ pairs. ArePlacesOf basis pairs c.loop-pair.rows) c.as_slice-pair-items.ensures.keys
    (means_all basis c.as_slice-pair-items.result.now c.loop-pair.pair-index c.in_ok-rows.rows c.loop-pair.rows c.loop-pair-test.false size c.in_ok-rows.ensures.empty c.loop-pair.invariant)
