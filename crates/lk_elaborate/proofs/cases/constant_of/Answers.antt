use Rattle.lk_elaborate.proofs.Casing.{constant_is}
use Rattle.lk_elaborate.proofs.cases.constant_of.Goals as goal

pub returns-in-Ok : goal.returns-in-Ok
returns-in-Ok c = constant_is c.args.walk.now c.args.e.now c.in-Ok.typing c.in-Ok.ensures.typing
