use Rattle.std.proofs.Common.{◌≡◌, ◌++◌, drop}
use Rattle.lk_typed.specs.Absent.{those_alike}
use Rattle.lk_elab_init.proofs.named_cells.those_alike.Given as goal

abbrev pub invariant-loop-other : goal.invariant-loop-other
invariant-loop-other l = l.those.items ++ those_alike l.cell (drop l.other-index l.cells) ≡ those_alike l.cell l.cells
