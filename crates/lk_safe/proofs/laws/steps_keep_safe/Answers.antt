use Rattle.lk_safe.proofs.All.{steps_safe}
use Rattle.lk_safe.proofs.laws.steps_keep_safe.Goals as goal

pub returns : goal.returns
returns c = steps_safe
