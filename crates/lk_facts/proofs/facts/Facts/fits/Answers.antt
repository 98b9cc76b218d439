use Rattle.std.proofs.Common.{◌≡◌, ◌≤◌, length, refl, arith}
use Rattle.lk_facts.proofs.FactLemmas.{agree}
use Rattle.lk_facts.proofs.facts.Facts.fits.Goals as goal

pub returns : goal.returns
returns c =
    let points : length c.args.labels.now.targets ≡ length c.args.points.now.points = omega (arith, c.points.ensures, c.count.ensures.value, c.if-points-count.false) in
    let labels : c.args.origins.now.all.size ≡ length c.args.labels.now.entries = omega (arith, c.labels.ensures.value, c.count-else-points-count.ensures.value, c.if-labels-count.false) in
    let places : length c.args.points.now.places ≤ length c.args.labels.now.entries = omega (arith, c.locations.ensures.value, c.locations.ensures.few, c.locks.ensures.value, c.count-else-labels-count.ensures.value, c.if-locations-locks.false) in
    ((λ _. agree _ _ _ points labels places (λ x within. c.loop-l.invariant x (omega (arith, c.count-l-end.ensures.value, c.loop-l-test.false)))), (λ _. refl))
