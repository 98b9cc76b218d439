use Rattle.std.proofs.Common.{◌≡◌, ◌++◌, drop}
use Rattle.lk_elab_init.specs.Places.{first_cell}
use Rattle.lk_elab_init.proofs.advancing.first_cell.Given as goal

abbrev pub invariant-loop-turn : goal.invariant-loop-turn
invariant-loop-turn l = l.cell.items ++ first_cell (drop l.turn-index l.way) ≡ first_cell l.way
