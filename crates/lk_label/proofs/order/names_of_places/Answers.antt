use Rattle.std.proofs.Common.{◌≡◌, length, subst, sym, arith}
use Rattle.lk_label.specs.Gathering.{ArePlacesTo}
use Rattle.lk_label.proofs.NameLists.{no_places}
use Rattle.lk_label.proofs.order.names_of_places.Goals as goal

pub loop-n-init : goal.loop-n-init
loop-n-init c = subst (ArePlacesTo c.args.points.now c.args.names.now 0) (sym c.new-found.ensures) (no_places c.args.points.now c.args.names.now)

pub returns : goal.returns
returns c =
    let all : c.loop-n.n ≡ length c.args.points.now.places = omega (arith, c.loop-n-test.false, c.loop-n.auto.n-end, c.place_count-n-end.ensures) in
    subst (λ n. ArePlacesTo c.args.points.now c.args.names.now n c.loop-n.found) all c.loop-n.invariant
