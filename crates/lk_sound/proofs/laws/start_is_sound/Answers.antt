use Rattle.lk_sound.proofs.Starting.{start_is_sound}
use Rattle.lk_sound.proofs.laws.start_is_sound.Goals as goal

pub returns : goal.returns
returns c = start_is_sound
