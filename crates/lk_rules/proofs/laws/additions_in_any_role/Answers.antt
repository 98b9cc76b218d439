use Rattle.lk_rules.proofs.Roles as lemma
use Rattle.lk_rules.proofs.laws.additions_in_any_role.Goals as goal

pub returns : goal.returns
returns c = lemma.additions_in_any_role
