use Rattle.lk_typed.proofs.Means as lemma
use Rattle.lk_typed.proofs.laws.trees_differ.Goals as goal

pub returns : goal.returns
returns c = lemma.trees_differ
