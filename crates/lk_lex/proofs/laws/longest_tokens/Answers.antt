use Rattle.lk_lex.proofs.InFront.{are_longest}
use Rattle.lk_lex.proofs.laws.longest_tokens.Goals as goal

pub returns : goal.returns
returns c = are_longest
