use Rattle.lk_nodes.proofs.Environments as lemma
use Rattle.lk_nodes.proofs.laws.known_structs_stay.Goals as goal

pub returns : goal.returns
returns c = lemma.known_structs_stay
