use Rattle.lk_rules.proofs.Kept as lemma
use Rattle.lk_rules.proofs.laws.hidden_codes_are_left_out.Goals as goal

pub returns : goal.returns
returns c = lemma.hidden_codes_are_left_out
