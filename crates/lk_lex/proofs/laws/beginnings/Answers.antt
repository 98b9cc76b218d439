use Rattle.lk_lex.proofs.Nothing.{nothing_begins}
use Rattle.lk_lex.proofs.laws.beginnings.Goals as goal

pub returns : goal.returns
returns c = nothing_begins
