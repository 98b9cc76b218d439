use Rattle.std.proofs.Common.{◌≡◌, false, take}
use Rattle.lk_types.specs.Sizes.{is_over, with_types}
use Rattle.lk_types.proofs.table.TypeTable.with_fields.Given as goal

abbrev pub invariant-loop-t : goal.invariant-loop-t
invariant-loop-t l = (l.larger ≡ with_types l.self l.fn.size (take l.t-index l.types)) × (is_over l.larger ≡ false)
