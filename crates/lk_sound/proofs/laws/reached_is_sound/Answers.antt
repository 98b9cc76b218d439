use Rattle.lk_sound.proofs.CellSoundness.{reached_sound}
use Rattle.lk_sound.proofs.laws.reached_is_sound.Goals as goal

pub returns : goal.returns
returns c = reached_sound
