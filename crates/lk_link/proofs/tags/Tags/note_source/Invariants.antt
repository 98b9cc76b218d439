use Rattle.lk_link.specs.Tags.{AreFirsts}
use Rattle.lk_link.proofs.tags.Tags.note_source.Given as goal

abbrev pub invariant-loop-number : goal.invariant-loop-number
invariant-loop-number l = AreFirsts l.units l.self l.source l.number
