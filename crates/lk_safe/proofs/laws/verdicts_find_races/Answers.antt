use Rattle.lk_safe.proofs.All.{verdicts_find}
use Rattle.lk_safe.proofs.laws.verdicts_find_races.Goals as goal

pub returns : goal.returns
returns c = verdicts_find
