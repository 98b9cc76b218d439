use Rattle.std.proofs.Common.{◌≡◌, length, arith, subst}
use Rattle.lk_play.proofs.Racing.{AreBelow, one_below, all_below}
use Rattle.lk_play.proofs.races.touches.Goals as goal

pub loop-thread-preserved : goal.loop-thread-preserved
loop-thread-preserved c =
    one_below c.args.points.now c.args.state.now c.loop-thread.thread c.loop-thread.touches.items c.push.new.self.items c.in_ok-touched.touched c.loop-thread.invariant c.in_ok-push.ensures.items c.in_ok-touched.ensures

pub returns : goal.returns
returns c =
    let at : c.loop-thread.thread ≡ length c.args.state.now.threads = omega (arith, c.loop-thread-test.false, c.loop-thread.auto.thread-end, c.threads-thread-end.ensures) in
    all_below c.args.points.now c.args.state.now c.loop-thread.touches.items
    (subst (λ n. AreBelow c.args.points.now c.args.state.now n c.loop-thread.touches.items) at c.loop-thread.invariant)
