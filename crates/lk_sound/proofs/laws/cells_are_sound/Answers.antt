use Rattle.lk_sound.proofs.CellSoundness.{cells_sound}
use Rattle.lk_sound.proofs.laws.cells_are_sound.Goals as goal

pub returns : goal.returns
returns c = cells_sound
