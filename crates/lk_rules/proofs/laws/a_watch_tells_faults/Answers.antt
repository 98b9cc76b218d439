use Rattle.lk_rules.proofs.Kept as lemma
use Rattle.lk_rules.proofs.laws.a_watch_tells_faults.Goals as goal

pub returns : goal.returns
returns c = lemma.a_watch_tells_faults
