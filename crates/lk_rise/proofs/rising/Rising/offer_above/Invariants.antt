use Rattle.lk_rise.specs.Tables.{setting}
use Rattle.lk_rise.proofs.PassLemmas.{OffersBelow}
use Rattle.lk_rise.proofs.rising.Rising.offer_above.Given as goal

abbrev pub invariant-loop-subject : goal.invariant-loop-subject
invariant-loop-subject l =
    OffersBelow (setting l.self) l.link l.passage.item l.set l.subject-items l.subject-index l.initial.table l.table l.initial.again.items l.again.items
