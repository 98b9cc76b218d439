use Rattle.lk_laws.proofs.EdgeEnds.{none_at_origin}
use Rattle.lk_laws.proofs.flow.no_edge_ends_at_an_origin.Goals as goal

pub returns : goal.returns
returns c = none_at_origin
