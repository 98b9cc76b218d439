use Rattle.lk_laws.proofs.AlikeEdges.{join_alike}
use Rattle.lk_laws.proofs.flow.edges_join_alike.Goals as goal

pub returns : goal.returns
returns c = join_alike
