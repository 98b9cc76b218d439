use Rattle.lk_types.proofs.GrowLemmas.{older_walks_stay}
use Rattle.lk_types.proofs.laws.older_walks_stay.Goals as goal

pub returns : goal.returns
returns c = older_walks_stay
