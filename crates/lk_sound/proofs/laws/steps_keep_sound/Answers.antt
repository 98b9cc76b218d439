use Rattle.lk_sound.proofs.CellSoundness.{steps_sound}
use Rattle.lk_sound.proofs.laws.steps_keep_sound.Goals as goal

pub returns : goal.returns
returns c = steps_sound
