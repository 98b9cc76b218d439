use Rattle.lk_laws.proofs.RowEnds.{rows_give}
use Rattle.lk_laws.proofs.flow.rows_give_edges.Goals as goal

pub returns : goal.returns
returns c = rows_give
