use Rattle.lk_play.proofs.Racing.{one_more, none_more}
use Rattle.lk_play.proofs.races.put_raced.Goals as goal

pub returns-in_ok-push-in-Some : goal.returns-in_ok-push-in-Some
returns-in_ok-push-in-Some c = λ found.
    one_more c.args.points.now c.args.state.now c.args.touches.now c.requires c.args.thread c.args.found.now.items c.push.new.self.items c.in-Some.number found c.in-Some.ensures c.in_ok-push-in-Some.ensures.items

pub returns-in-None : goal.returns-in-None
returns-in-None c = λ found. none_more c.args.points.now c.args.state.now c.args.touches.now c.args.thread c.args.found.now.items found c.in-None.ensures
