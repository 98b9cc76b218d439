use Rattle.lk_play.proofs.Turns as lemma
use Rattle.lk_play.proofs.laws.schedules_are_one.Goals as goal

pub returns : goal.returns
returns c = lemma.schedules_are_one
