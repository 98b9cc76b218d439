use Rattle.lk_found.proofs.FormsOf as lemma
use Rattle.lk_found.proofs.laws.types_follow_forms.Goals as goal

pub returns : goal.returns
returns c = lemma.types_follow_forms
