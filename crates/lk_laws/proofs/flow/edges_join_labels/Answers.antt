use Rattle.lk_laws.proofs.EdgeEnds.{join_labels}
use Rattle.lk_laws.proofs.flow.edges_join_labels.Goals as goal

pub returns : goal.returns
returns c = join_labels
