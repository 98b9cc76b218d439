use Rattle.lk_safe.proofs.All.{start_safe}
use Rattle.lk_safe.proofs.laws.start_is_safe.Goals as goal

pub returns : goal.returns
returns c = start_safe
