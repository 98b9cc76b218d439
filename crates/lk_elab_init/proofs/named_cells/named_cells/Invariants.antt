use Rattle.std.proofs.Common.{◌≡◌, ◌++◌, drop}
use Rattle.lk_elab_init.specs.Cells.{cells_given}
use Rattle.lk_elab_init.proofs.named_cells.named_cells.Given as goal

abbrev pub invariant-loop-part : goal.invariant-loop-part
invariant-loop-part l = l.cells.items ++ cells_given (drop l.part-index l.parts) ≡ cells_given l.parts
