use Rattle.std.proofs.Common.{◌+◌, drop}
use Rattle.lk_check_unit.proofs.AtEnd.{all_left, next_known, none_left, one_less}
use Rattle.lk_rules.proofs.Rests.{next_left, nothing_left}
use Rattle.lk_check_unit.proofs.at_end.ask_pending.Goals as goal

pub loop-pending-init : goal.loop-pending-init
loop-pending-init c = all_left c.args.checker.now c.args.list.now c.requires

pub ask_one-requires : goal.ask_one-requires
ask_one-requires c =
    next_known c.args.checker.now c.loop-pending.checker c.args.list.now (drop c.loop-pending.pending-index c.args.list.now) (drop (c.loop-pending.pending-index + 1) c.args.list.now) c.pending-item.result
    (next_left c.args.list.now c.loop-pending.pending-index c.pending-item.result c.loop-pending-test.true c.pending-item.is) c.loop-pending.invariant

pub loop-pending-preserved : goal.loop-pending-preserved
loop-pending-preserved c =
    one_less c.args.checker.now c.loop-pending.checker c.ask_one.new.checker c.args.list.now (drop c.loop-pending.pending-index c.args.list.now) (drop (c.loop-pending.pending-index + 1) c.args.list.now) c.pending-item.result
    (next_left c.args.list.now c.loop-pending.pending-index c.pending-item.result c.loop-pending-test.true c.pending-item.is) c.loop-pending.invariant c.in_ok-ask_one.ensures.kept c.in_ok-ask_one.ensures.same

pub returns-clause-asks : goal.returns-clause-asks
returns-clause-asks c =
    none_left c.args.checker.now c.loop-pending.checker c.args.list.now (drop c.loop-pending.pending-index c.args.list.now) (nothing_left c.args.list.now c.loop-pending.pending-index c.loop-pending-test.false) c.loop-pending.invariant

pub returns-clause-same : goal.returns-clause-same
returns-clause-same c = c.loop-pending.invariant.same
