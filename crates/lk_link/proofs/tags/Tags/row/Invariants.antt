use Rattle.lk_link.proofs.Resolving.{IsRowBelow}
use Rattle.lk_link.proofs.tags.Tags.row.Given as goal

abbrev pub invariant-loop-number : goal.invariant-loop-number
invariant-loop-number l = IsRowBelow l.units l.source l.number l.row.items
