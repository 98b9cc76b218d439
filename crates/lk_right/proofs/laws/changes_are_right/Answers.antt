use Rattle.lk_right.proofs.Assembling.{changes_are_right}
use Rattle.lk_right.proofs.laws.changes_are_right.Goals as goal

pub returns : goal.returns
returns c = changes_are_right
