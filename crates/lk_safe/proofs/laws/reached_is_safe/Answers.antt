use Rattle.lk_safe.proofs.All.{reached_safe}
use Rattle.lk_safe.proofs.laws.reached_is_safe.Goals as goal

pub returns : goal.returns
returns c = reached_safe
