use Rattle.lk_safe.proofs.All.{races_suspect}
use Rattle.lk_safe.proofs.laws.races_are_suspect.Goals as goal

pub returns : goal.returns
returns c = races_suspect
