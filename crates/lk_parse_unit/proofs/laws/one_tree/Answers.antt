use Rattle.lk_parse_unit.proofs.Exact.{one_tree}
use Rattle.lk_parse_unit.proofs.laws.one_tree.Goals as goal

pub returns : goal.returns
returns c = one_tree
