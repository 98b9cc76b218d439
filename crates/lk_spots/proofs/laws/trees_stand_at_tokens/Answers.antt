use Rattle.lk_spots.proofs.AtTokens as lemma
use Rattle.lk_spots.proofs.laws.trees_stand_at_tokens.Goals as goal

pub returns : goal.returns
returns c = lemma.trees_stand_at_tokens
