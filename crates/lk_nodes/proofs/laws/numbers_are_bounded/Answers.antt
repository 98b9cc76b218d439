use Rattle.lk_nodes.proofs.Sources as lemma
use Rattle.lk_nodes.proofs.laws.numbers_are_bounded.Goals as goal

pub returns : goal.returns
returns c = lemma.numbers_are_bounded
