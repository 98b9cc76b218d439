use Rattle.lk_laws.proofs.Walking.{flow_least}
use Rattle.lk_laws.proofs.paths.flow_is_least.Goals as goal

pub returns : goal.returns
returns c = flow_least
