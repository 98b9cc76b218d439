use Rattle.lk_rules.proofs.Kept as lemma
use Rattle.lk_rules.proofs.laws.the_first_fault_is_kept.Goals as goal

pub returns : goal.returns
returns c = lemma.the_first_fault_is_kept
