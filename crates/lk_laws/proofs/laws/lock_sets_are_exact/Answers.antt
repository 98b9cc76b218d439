use Rattle.lk_laws.proofs.LawLemmas.{exact}
use Rattle.lk_laws.proofs.laws.lock_sets_are_exact.Goals as goal

pub returns : goal.returns
returns c = exact
