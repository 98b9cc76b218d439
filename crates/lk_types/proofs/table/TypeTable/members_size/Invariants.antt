use Rattle.std.proofs.Common.{◌≡◌, false, take}
use Rattle.lk_types.specs.Building.{types_of}
use Rattle.lk_types.specs.Sizes.{start_size, is_over, with_types}
use Rattle.lk_types.proofs.table.TypeTable.members_size.Given as goal

abbrev pub invariant-loop-member : goal.invariant-loop-member
invariant-loop-member l = (l.size ≡ with_types l.self start_size (take l.member-index (types_of l.members))) × (is_over l.size ≡ false)
