use Rattle.lk_trails.proofs.Counting.{counts_are_kept}
use Rattle.lk_trails.proofs.laws.counts_are_kept.Goals as goal

pub returns : goal.returns
returns c = counts_are_kept
