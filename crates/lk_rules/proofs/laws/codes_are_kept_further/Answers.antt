use Rattle.lk_rules.proofs.Kept as lemma
use Rattle.lk_rules.proofs.laws.codes_are_kept_further.Goals as goal

pub returns : goal.returns
returns c = lemma.codes_are_kept_further
