use Rattle.std.proofs.Common.{All, take}
use Rattle.lk_join.specs.Forms.{HasPointer, KeepsPointers}
use Rattle.lk_join.proofs.types.put_pointers.Given as goal

-- the first pointers are put
abbrev pub invariant-loop-t : goal.invariant-loop-t
invariant-loop-t l = KeepsPointers l.fn.table l.table × All (HasPointer l.table) (take l.t-index l.row)
