use Rattle.lk_spots.proofs.AtTokens as lemma
use Rattle.lk_spots.proofs.laws.nodes_hold_places_of_tokens.Goals as goal

pub returns : goal.returns
returns c = lemma.nodes_hold_places_of_tokens
