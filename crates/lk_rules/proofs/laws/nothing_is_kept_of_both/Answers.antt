use Rattle.lk_rules.proofs.Kept as lemma
use Rattle.lk_rules.proofs.laws.nothing_is_kept_of_both.Goals as goal

pub returns : goal.returns
returns c = lemma.nothing_is_kept_of_both
