use Rattle.lk_spots.proofs.AtTokens as lemma
use Rattle.lk_spots.proofs.laws.faults_stand_at_tokens.Goals as goal

pub returns : goal.returns
returns c = lemma.faults_stand_at_tokens
