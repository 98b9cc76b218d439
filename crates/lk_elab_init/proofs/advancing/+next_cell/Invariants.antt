use Rattle.std.proofs.Common.{length}
use Rattle.lk_elab_init.proofs.advancing.+next_cell.Given as goal

abbrev pub decreases-next_cell : goal.decreases-next_cell
decreases-next_cell l = length l.way.now
