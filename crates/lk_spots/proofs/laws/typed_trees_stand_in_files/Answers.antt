use Rattle.lk_spots.proofs.AtTokens as lemma
use Rattle.lk_spots.proofs.laws.typed_trees_stand_in_files.Goals as goal

pub returns : goal.returns
returns c = lemma.typed_trees_stand_in_files
