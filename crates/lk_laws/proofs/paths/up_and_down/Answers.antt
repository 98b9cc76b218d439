use Rattle.lk_laws.proofs.Walking.{up_down}
use Rattle.lk_laws.proofs.paths.up_and_down.Goals as goal

pub returns : goal.returns
returns c = up_down
