use Rattle.lk_types.proofs.NewLemmas.{predeclared_types_stay}
use Rattle.lk_types.proofs.laws.predeclared_types_stay.Goals as goal

pub returns : goal.returns
returns c = predeclared_types_stay
