use Rattle.lk_link.specs.Tags.{AreFirsts}
use Rattle.lk_link.proofs.tags.Tags.of_sources.Given as goal

abbrev pub invariant-loop-source : goal.invariant-loop-source
invariant-loop-source l = AreFirsts l.units l.tags l.source 0
