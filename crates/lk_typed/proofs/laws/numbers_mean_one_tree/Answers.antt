use Rattle.lk_typed.proofs.Means as lemma
use Rattle.lk_typed.proofs.laws.numbers_mean_one_tree.Goals as goal

pub returns : goal.returns
returns c = lemma.numbers_mean_one_tree
