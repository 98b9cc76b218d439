use Rattle.lk_sound.proofs.CellSoundness.{stepped_sound}
use Rattle.lk_sound.proofs.stepping.step.Goals as goal

-- what a step tells is sound, since each state that is reached is
pub returns : goal.returns
returns c = record { told = c.step.ensures; sound = stepped_sound c.args.points.now c.args.state c.args.thread c.args.word c.step.result c.step.ensures }
