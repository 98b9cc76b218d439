use Rattle.lk_spots.proofs.AtTokens as lemma
use Rattle.lk_spots.proofs.laws.nodes_stand_in_files.Goals as goal

pub returns : goal.returns
returns c = lemma.nodes_stand_in_files
