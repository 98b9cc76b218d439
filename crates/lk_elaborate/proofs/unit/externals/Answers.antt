use Rattle.std.proofs.Common.{drop, ◌+◌, refl}
use Rattle.lk_rules.proofs.Rests.{next_left, nothing_left}
use Rattle.lk_elaborate.proofs.InTurn.{all_left, none_left, one_less}
use Rattle.lk_elaborate.proofs.Outside.{outside_same, outside_then}
use Rattle.lk_elaborate.proofs.unit.externals.Goals as goal

pub loop-d-init : goal.loop-d-init
loop-d-init c = record { goes = outside_same c.args.walk.now; left = all_left c.args.walk.now c.args.list.now c.args.list.now refl }

pub loop-d-preserved : goal.loop-d-preserved
loop-d-preserved c =
    let ds = c.args.list.now in
    let old = c.args.walk.now in
    let goes = c.in_ok-external.ensures.goes in
    record {
      goes = outside_then old c.loop-d.walk c.external.new.walk c.loop-d.invariant.goes goes;
      left =
          one_less old c.loop-d.walk c.external.new.walk ds (drop c.loop-d.d-index ds) (drop (c.loop-d.d-index + 1) ds) c.d-item.result
          (next_left ds c.loop-d.d-index c.d-item.result c.loop-d-test.true c.d-item.is) c.loop-d.invariant.goes goes c.in_ok-external.ensures.makes c.loop-d.invariant.left;
    }

pub returns-clause-makes : goal.returns-clause-makes
returns-clause-makes c =
    let ds = c.args.list.now in
    none_left c.args.walk.now c.loop-d.walk ds (drop c.loop-d.d-index ds) (nothing_left ds c.loop-d.d-index c.loop-d-test.false) c.loop-d.invariant.left

pub returns-clause-goes : goal.returns-clause-goes
returns-clause-goes c = c.loop-d.invariant.goes
