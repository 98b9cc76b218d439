use Rattle.lk_safe.proofs.All.{races_found}
use Rattle.lk_safe.proofs.laws.races_are_found.Goals as goal

pub returns : goal.returns
returns c = races_found
