use Rattle.lk_point_spots.proofs.Programs as lemma
use Rattle.lk_point_spots.proofs.laws.points_stand_in_files.Goals as goal

pub returns : goal.returns
returns c = lemma.points_stand_in_files
