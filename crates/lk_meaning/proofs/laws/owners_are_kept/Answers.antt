use Rattle.lk_meaning.proofs.LawLemmas.{owners_kept}
use Rattle.lk_meaning.proofs.laws.owners_are_kept.Goals as goal

pub returns : goal.returns
returns c = owners_kept
