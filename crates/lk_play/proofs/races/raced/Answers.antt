use Rattle.std.proofs.Common.{sym, subst}
use Rattle.lk_play.specs.Calls.{AreAllRaced, AreTouches}
use Rattle.lk_play.proofs.Racing.{are_raced}
use Rattle.lk_play.proofs.races.raced.Goals as goal

pub returns : goal.returns
returns c =
    let are : AreTouches c.args.points.now c.args.state.now c.deref.result.now = subst (AreTouches c.args.points.now c.args.state.now) (sym c.deref.ensures.value) c.in_ok-touches.ensures in
    let all : AreAllRaced c.args.points.now c.args.state.now c.deref.result.now c.deref-2.result.now =
    subst (AreAllRaced c.args.points.now c.args.state.now c.deref.result.now) (sym c.deref-2.ensures.value) c.in_ok-found.ensures in
    are_raced c.args.points.now c.args.state.now c.deref.result.now are c.deref-2.result.now c.in_ok-set.set all c.in_ok-set.ensures
