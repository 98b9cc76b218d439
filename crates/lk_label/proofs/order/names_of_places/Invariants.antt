use Rattle.lk_label.specs.Gathering.{ArePlacesTo}
use Rattle.lk_label.proofs.order.names_of_places.Given as goal

abbrev pub invariant-loop-n : goal.invariant-loop-n
invariant-loop-n l = ArePlacesTo l.points l.names l.n l.found
