use Rattle.std.proofs.Common.{length}
use Rattle.lk_elab_init.proofs.paths.+are_same_paths.Given as goal

abbrev pub decreases-are_same_paths : goal.decreases-are_same_paths
decreases-are_same_paths l = length l.a.now
