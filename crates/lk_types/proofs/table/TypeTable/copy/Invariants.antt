use Rattle.std.proofs.Common.{◌≡◌, take}
use Rattle.lk_types.proofs.table.TypeTable.copy.Given as goal

abbrev pub invariant-loop-part : goal.invariant-loop-part
invariant-loop-part l = l.parts.items ≡ take l.part-index l.self-inside.parts

abbrev pub invariant-loop-entry : goal.invariant-loop-entry
invariant-loop-entry l = l.structs.items ≡ take l.entry-index l.self-inside.structs.items
