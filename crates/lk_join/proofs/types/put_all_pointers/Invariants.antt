use Rattle.std.proofs.Common.{All, take}
use Rattle.lk_join.specs.Forms.{HasPointer, KeepsPointers}
use Rattle.lk_join.proofs.types.put_all_pointers.Given as goal

-- the pointers to the types of the first sources are put
abbrev pub invariant-loop-row : goal.invariant-loop-row
invariant-loop-row l = KeepsPointers l.fn.table l.table × All (All (HasPointer l.table)) (take l.row-index l.rows)
