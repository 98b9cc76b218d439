use Rattle.lk_link.proofs.Resolving.{AreRowsBelow}
use Rattle.lk_link.proofs.tags.resolve.Given as goal

abbrev pub invariant-loop-source : goal.invariant-loop-source
invariant-loop-source l = AreRowsBelow l.units l.source l.rows.items
