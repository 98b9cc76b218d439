use Rattle.lk_trails.proofs.Pasts.{pasts_are_kept}
use Rattle.lk_trails.proofs.laws.pasts_are_kept.Goals as goal

pub returns : goal.returns
returns c = pasts_are_kept
