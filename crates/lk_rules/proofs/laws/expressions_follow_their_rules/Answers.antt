use Rattle.lk_rules.proofs.Found.{expressions_follow_their_rules}
use Rattle.lk_rules.proofs.laws.expressions_follow_their_rules.Goals as goal

pub returns : goal.returns
returns c = expressions_follow_their_rules
