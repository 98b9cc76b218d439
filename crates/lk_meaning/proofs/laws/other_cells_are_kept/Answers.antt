use Rattle.lk_meaning.proofs.LawLemmas.{cells_kept}
use Rattle.lk_meaning.proofs.laws.other_cells_are_kept.Goals as goal

pub returns : goal.returns
returns c = cells_kept
