use Rattle.lk_names.proofs.Environments as lemma
use Rattle.lk_names.proofs.laws.left_scopes_stay.Goals as goal

pub returns : goal.returns
returns c = λ old new good longer count scope known. lemma.left_scope_stays old new good longer count scope known
