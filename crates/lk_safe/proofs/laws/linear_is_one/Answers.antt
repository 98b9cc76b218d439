use Rattle.lk_safe.proofs.All.{linear_one}
use Rattle.lk_safe.proofs.laws.linear_is_one.Goals as goal

pub returns : goal.returns
returns c = linear_one
