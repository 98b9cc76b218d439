use Rattle.lk_point_statics.proofs.Beginning.{no_more, one_write}
use Rattle.lk_point_statics.proofs.writes.push_write.Goals as goal

pub returns-in-None : goal.returns-in-None
returns-in-None c = no_more c.args.points.now c.args.p c.args.writes.now.items c.requires.writes c.in-None.ensures.only

pub returns-in_ok-push-in-Some : goal.returns-in_ok-push-in-Some
returns-in_ok-push-in-Some c =
    one_write c.args.points.now c.args.p c.args.writes.now.items c.push.new.self.items c.in-Some.write c.requires.writes c.in-Some.ensures.is c.in-Some.ensures.only c.in_ok-push-in-Some.ensures.items
