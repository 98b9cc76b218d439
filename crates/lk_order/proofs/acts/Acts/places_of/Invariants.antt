use Rattle.std.proofs.Common.{take}
use Rattle.lk_order.specs.Acts.{basis_in}
use Rattle.lk_order.specs.Finding.{Puts}
use Rattle.lk_order.proofs.FindingLemmas.{SomeMayMean}
use Rattle.lk_order.proofs.acts.Acts.places_of.Given as goal

abbrev pub invariant-loop-pair : goal.invariant-loop-pair
invariant-loop-pair l = Puts (SomeMayMean (basis_in l.self) (take l.pair-index l.pair-items)) l.initial.rows l.rows
