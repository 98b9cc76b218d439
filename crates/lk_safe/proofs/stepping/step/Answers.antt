use Rattle.lk_safe.proofs.Stepped.{stepped_held}
use Rattle.lk_safe.proofs.stepping.step.Goals as goal

-- what a step tells is held, since each state that is reached is safe
pub returns : goal.returns
returns c = record {
  told = c.step.ensures.told;
  sound = c.step.ensures.sound;
  held = stepped_held c.args.points.now c.args.state c.args.thread c.args.word c.step.result c.step.ensures.told;
}
