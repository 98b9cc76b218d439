use Rattle.std.proofs.Common.{◌≡◌, length, arith, subst, sym}
use Rattle.lk_play.specs.Calls.{AreFoundBelow}
use Rattle.lk_play.proofs.Racing.{none_found, all_found}
use Rattle.lk_play.proofs.races.all_raced.Goals as goal

pub loop-thread-init : goal.loop-thread-init
loop-thread-init c =
    subst (AreFoundBelow c.args.points.now c.args.state.now c.args.touches.now 0) (sym c.new-found.ensures.items) (none_found c.args.points.now c.args.state.now c.args.touches.now)

pub returns : goal.returns
returns c =
    let at : c.loop-thread.thread ≡ length c.args.touches.now = omega (arith, c.loop-thread-test.false, c.loop-thread.auto.thread-end) in
    all_found c.args.points.now c.args.state.now c.args.touches.now c.loop-thread.found.items
    (subst (λ i. AreFoundBelow c.args.points.now c.args.state.now c.args.touches.now i c.loop-thread.found.items) at c.loop-thread.invariant)
