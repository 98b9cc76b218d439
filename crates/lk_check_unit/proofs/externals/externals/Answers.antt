use Rattle.std.proofs.Common.{◌+◌, drop}
use Rattle.lk_rules.proofs.Rests.{next_left, nothing_left}
use Rattle.lk_check_unit.proofs.Sources.{all_left, none_left, one_less}
use Rattle.lk_check_unit.proofs.Staying.{grows_none, grows_then}
use Rattle.lk_check_unit.proofs.externals.externals.Goals as goal

pub loop-d-init : goal.loop-d-init
loop-d-init c = record { grows = grows_none c.args.checker.now c.requires; left = all_left c.args.checker.now c.args.pending.now c.args.list.now }

pub loop-d-preserved : goal.loop-d-preserved
loop-d-preserved c =
    record {
      grows = grows_then c.args.checker.now c.loop-d.checker c.external.new.checker c.loop-d.invariant.grows c.in_ok-external.ensures.grows;
      left =
          one_less c.args.checker.now c.loop-d.checker c.external.new.checker c.args.pending.now c.loop-d.pending c.external.new.pending c.args.list.now (drop c.loop-d.d-index c.args.list.now)
          (drop (c.loop-d.d-index + 1) c.args.list.now) c.d-item.result c.loop-d.invariant.grows.sound c.in_ok-external.ensures.grows
          (next_left c.args.list.now c.loop-d.d-index c.d-item.result c.loop-d-test.true c.d-item.is) c.loop-d.invariant.left c.in_ok-external.ensures.walks;
    }

pub returns-clause-walks : goal.returns-clause-walks
returns-clause-walks c =
    none_left c.args.checker.now c.loop-d.checker c.args.pending.now c.loop-d.pending c.args.list.now (drop c.loop-d.d-index c.args.list.now) c.loop-d.invariant.grows.sound
    (nothing_left c.args.list.now c.loop-d.d-index c.loop-d-test.false) c.loop-d.invariant.left
