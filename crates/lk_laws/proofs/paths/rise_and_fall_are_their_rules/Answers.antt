use Rattle.lk_laws.proofs.Walking.{rises_and_falls}
use Rattle.lk_laws.proofs.paths.rise_and_fall_are_their_rules.Goals as goal

pub returns : goal.returns
returns c = rises_and_falls
