use Rattle.lk_rules.proofs.Kept as lemma
use Rattle.lk_rules.proofs.laws.the_least_code_is_enough.Goals as goal

pub returns : goal.returns
returns c = lemma.the_least_code_is_enough
