use Rattle.std.proofs.Common.{drop, Option}
use Rattle.lk_typed.specs.Absent.{Path}
use Rattle.lk_elab_init.specs.Places.{Walks, first_cell}
use Rattle.lk_elab_init.proofs.advancing.first_absent.Given as goal

abbrev pub invariant-loop-other : goal.invariant-loop-other
invariant-loop-other l = (r : Option Path) → Walks l.way l.cell (drop l.other-index l.named) r → Walks l.way (first_cell l.way) l.named r
