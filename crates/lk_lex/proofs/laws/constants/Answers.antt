use Rattle.lk_lex.proofs.ReadNumbers.{numbers_are_constants}
use Rattle.lk_lex.proofs.laws.constants.Goals as goal

pub returns : goal.returns
returns c = numbers_are_constants
