use Rattle.lk_nodes.proofs.Environments as lemma
use Rattle.lk_nodes.proofs.laws.outside_stays.Goals as goal

pub returns : goal.returns
returns c = lemma.outside_stays
