use Rattle.lk_rules.proofs.Layered as lemma
use Rattle.lk_rules.proofs.laws.specifiers_follow_their_forms.Goals as goal

pub returns : goal.returns
returns c = lemma.specifiers_follow_their_forms
