use Rattle.lk_sound.proofs.Keeping.{right_changes_keep}
use Rattle.lk_sound.proofs.laws.right_changes_keep.Goals as goal

pub returns : goal.returns
returns c = right_changes_keep
