use Rattle.std.proofs.Common.{drop, ◌+◌}
use Rattle.lk_rules.proofs.Rests.{next_left, nothing_left}
use Rattle.lk_elaborate.proofs.ParametersMore.{all_so_far, none_so_far, one_so_far}
use Rattle.lk_elaborate.proofs.parameters.put_typed.Goals as goal

pub loop-place-init : goal.loop-place-init
loop-place-init c = none_so_far c.args.walk.now c.args.list.now c.args.types.now

pub loop-place-preserved : goal.loop-place-preserved
loop-place-preserved c =
    let ps = c.args.list.now in
    let ts = c.args.types.now in
    let place = c.loop-place.place in
    one_so_far c.args.walk.now c.loop-place.walk c.put_parameter.new.walk ps ts (drop place ps) (drop (place + 1) ps) (drop place ts) (drop (place + 1) ts) c.in-Some.p.now c.index-types-place.result
    (next_left ps place c.in-Some.p.now c.in-Some.ensures.lookup.3.0 c.in-Some.ensures.lookup.1) (next_left ts place c.index-types-place.result c.loop-place-test.true c.index-types-place.is) c.loop-place.invariant
    c.in_ok-put_parameter-in-Some.ensures

pub returns : goal.returns
returns c =
    all_so_far c.args.walk.now c.loop-place.walk c.args.list.now c.args.types.now (drop c.loop-place.place c.args.list.now) (drop c.loop-place.place c.args.types.now)
    (nothing_left c.args.types.now c.loop-place.place c.loop-place-test.false) c.loop-place.invariant
