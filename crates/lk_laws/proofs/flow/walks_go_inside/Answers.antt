use Rattle.lk_laws.proofs.Inside.{walks_go_inside}
use Rattle.lk_laws.proofs.flow.walks_go_inside.Goals as goal

pub returns : goal.returns
returns c = walks_go_inside
