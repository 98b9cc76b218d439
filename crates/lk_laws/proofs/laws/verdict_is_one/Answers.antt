use Rattle.lk_laws.proofs.LawLemmas.{one_verdict}
use Rattle.lk_laws.proofs.laws.verdict_is_one.Goals as goal

pub returns : goal.returns
returns c = one_verdict
