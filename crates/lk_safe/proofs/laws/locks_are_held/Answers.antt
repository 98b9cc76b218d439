use Rattle.lk_safe.proofs.All.{locks_held}
use Rattle.lk_safe.proofs.laws.locks_are_held.Goals as goal

pub returns : goal.returns
returns c = locks_held
