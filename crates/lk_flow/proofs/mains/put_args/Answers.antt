use Rattle.std.proofs.Common.{arith}
use Rattle.lk_flow.specs.Counting.{ArgsAt}
use Rattle.lk_flow.proofs.ActionLists.{strings_below}
use Rattle.lk_flow.proofs.Counting.{upto_none, upto_more, upto_all}
use Rattle.lk_flow.proofs.mains.put_args.Goals as goal

pub loop-q-init : goal.loop-q-init
loop-q-init c = upto_none c.args.labels.now.names (ArgsAt c.args.points.now c.args.r) c.args.found.now

pub loop-q-preserved : goal.loop-q-preserved
loop-q-preserved c = upto_more c.args.labels.now.names (ArgsAt c.args.points.now c.args.r) c.loop-q.q c.args.found.now c.loop-q.found c.put_strings.new.found c.loop-q.invariant c.in_ok-put_strings.ensures

pub returns : goal.returns
returns c =
    upto_all c.args.labels.now.names (ArgsAt c.args.points.now c.args.r) c.loop-q.q c.args.found.now c.loop-q.found
    (λ k u v m is. (let below = strings_below c.args.points.now c.args.labels.now.names c.args.r k u v m is in omega (arith, below, c.loop-q-test.false, c.roots-q-end.ensures))) c.loop-q.invariant
