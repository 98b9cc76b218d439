use Rattle.lk_rules.proofs.Roles as lemma
use Rattle.lk_rules.proofs.laws.looks_in_any_role.Goals as goal

pub returns : goal.returns
returns c = lemma.looks_in_any_role
