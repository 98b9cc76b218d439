use Rattle.lk_nodes.proofs.Sources as lemma
use Rattle.lk_nodes.proofs.laws.numbers_rise_inside.Goals as goal

pub returns : goal.returns
returns c = lemma.numbers_rise_inside
