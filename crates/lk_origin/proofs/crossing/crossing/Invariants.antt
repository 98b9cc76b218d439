use Rattle.lk_origin.proofs.CrossingLemmas.{Pairing}
use Rattle.lk_origin.proofs.crossing.crossing.Given as goal

abbrev pub invariant-loop-label : goal.invariant-loop-label
invariant-loop-label l = Pairing l.levels l.entrances l.label-items l.outside.items l.label-index
