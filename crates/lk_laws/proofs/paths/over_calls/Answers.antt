use Rattle.lk_laws.proofs.Walking.{over_call}
use Rattle.lk_laws.proofs.paths.over_calls.Goals as goal

pub returns : goal.returns
returns c = over_call
