use Rattle.lk_rules.proofs.Kept as lemma
use Rattle.lk_rules.proofs.laws.codes_are_kept_before_parts.Goals as goal

pub returns : goal.returns
returns c = lemma.codes_are_kept_before_parts
