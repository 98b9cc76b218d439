use Rattle.std.proofs.Common.{◌≡◌, ◌<◌, ◌+◌, ◌^◌, length}
use Rattle.lk_join.specs.Completing.{HaveSameMembers}
use Rattle.lk_join.proofs.types.begin_structs.Given as goal

abbrev pub invariant-loop-begun : goal.invariant-loop-begun
invariant-loop-begun l = (l._begun < 2 ^ 32) × (length l.table.members ≡ length l.fn.table.members + l._begun) × HaveSameMembers l.fn.table l.table × (l.table.types ≡ l.fn.table.types)
