use Rattle.lk_rules.proofs.Layered as lemma
use Rattle.lk_rules.proofs.laws.parameters_follow_their_parts.Goals as goal

pub returns : goal.returns
returns c = lemma.parameters_follow_their_parts
