use Rattle.lk_laws.proofs.Walking.{over_value}
use Rattle.lk_laws.proofs.paths.over_values.Goals as goal

pub returns : goal.returns
returns c = over_value
