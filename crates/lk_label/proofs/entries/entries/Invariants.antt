use Rattle.std.proofs.Common.{take}
use Rattle.lk_label.specs.Listing.{AreEntriesOf}
use Rattle.lk_label.proofs.entries.entries.Given as goal

abbrev pub invariant-loop-name : goal.invariant-loop-name
invariant-loop-name l = AreEntriesOf l.points (take l.name-index l.names) l.entries.items
