use Rattle.lk_safe.proofs.All.{verdicts_safe}
use Rattle.lk_safe.proofs.laws.verdicts_are_safe.Goals as goal

pub returns : goal.returns
returns c = verdicts_safe
