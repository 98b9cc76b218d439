use Rattle.lk_types.proofs.PathLemmas.{equal_nodes_have_equal_ids}
use Rattle.lk_types.proofs.laws.equal_nodes_have_equal_ids.Goals as goal

pub returns : goal.returns
returns c = equal_nodes_have_equal_ids
