use Rattle.lk_rules.proofs.Layered as lemma
use Rattle.lk_rules.proofs.laws.items_follow_their_parts.Goals as goal

pub returns : goal.returns
returns c = lemma.items_follow_their_parts
