use Rattle.std.proofs.lemmas.Bool.Decides.{Decides-eqb}
use Rattle.std.proofs.lemmas.Slice.Eq.{slice_eq-Decides}
use Rattle.lk_confirm.proofs.words.are_equal.Goals as goal

pub returns : goal.returns
returns c = let told = slice_eq-Decides Decides-eqb _ _ _ c.eq.ensures in record { yes = told.0; no = told.1 }
