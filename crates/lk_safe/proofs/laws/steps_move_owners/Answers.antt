use Rattle.lk_safe.proofs.Owning.{steps_move_owners}
use Rattle.lk_safe.proofs.laws.steps_move_owners.Goals as goal

pub returns : goal.returns
returns c = steps_move_owners
