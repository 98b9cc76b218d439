use Rattle.lk_meaning.proofs.Told.{comes}
use Rattle.lk_meaning.proofs.stepping.told.Goals as goal

pub returns : goal.returns
returns c = comes c.args.points.now c.args.state.now c.args.t c.args.word c.requires c.in_ok-next.next c.in_ok-next.ensures
