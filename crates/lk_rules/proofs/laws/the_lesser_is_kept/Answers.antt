use Rattle.lk_rules.proofs.Kept as lemma
use Rattle.lk_rules.proofs.laws.the_lesser_is_kept.Goals as goal

pub returns : goal.returns
returns c = lemma.the_lesser_is_kept
