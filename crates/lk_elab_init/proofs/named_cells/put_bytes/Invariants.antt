use Rattle.std.proofs.Common.{◌≡◌, ◌++◌, drop}
use Rattle.lk_elab_init.specs.Cells.{cells_of_text}
use Rattle.lk_elab_init.proofs.named_cells.put_bytes.Given as goal

abbrev pub invariant-loop-place : goal.invariant-loop-place
invariant-loop-place l = l.out.items ++ cells_of_text l.path l.place (drop l.place l.bytes) ≡ l.initial.out.items ++ cells_of_text l.path 0 l.bytes
