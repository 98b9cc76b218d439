use Rattle.lk_safe.proofs.Moving.{steps_move_trails}
use Rattle.lk_safe.proofs.laws.steps_move_trails.Goals as goal

pub returns : goal.returns
returns c = steps_move_trails
