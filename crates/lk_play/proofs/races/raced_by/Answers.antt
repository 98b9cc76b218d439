use Rattle.std.proofs.Common.{sym}
use Rattle.lk_play.proofs.Racing.{raced_here}
use Rattle.lk_play.proofs.races.raced_by.Goals as goal

pub returns-then-has_other : goal.returns-then-has_other
returns-then-has_other c =
    raced_here c.args.points.now c.args.state.now c.args.touches.now c.args.thread c.in_ok-found.found.now c.in_ok-found.ensures c.if-found.true (sym c.if-lives.ensures) (c.has_other.ensures.yes c.if-has_other.true) c.location.result c.location.ensures
