use Rattle.lk_rules.proofs.Layered as lemma
use Rattle.lk_rules.proofs.laws.member_declarators_follow_their_forms.Goals as goal

pub returns : goal.returns
returns c = lemma.member_declarators_follow_their_forms
