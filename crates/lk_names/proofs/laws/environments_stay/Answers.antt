use Rattle.lk_names.proofs.Environments.{environment_stays}
use Rattle.lk_names.proofs.laws.environments_stay.Goals as goal

pub returns : goal.returns
returns c = environment_stays
