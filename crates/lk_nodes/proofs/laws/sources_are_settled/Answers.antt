use Rattle.lk_nodes.proofs.Settled as lemma
use Rattle.lk_nodes.proofs.laws.sources_are_settled.Goals as goal

pub returns : goal.returns
returns c = lemma.sources_are_settled
