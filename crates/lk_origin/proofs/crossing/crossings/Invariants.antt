use Rattle.lk_origin.proofs.CrossingLemmas.{Sites}
use Rattle.lk_origin.proofs.crossing.crossings.Given as goal

abbrev pub invariant-loop-site : goal.invariant-loop-site
invariant-loop-site l = Sites l.levels l.entrances.items l.all.items l.site
