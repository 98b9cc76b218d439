use Rattle.std.proofs.Common.{drop, ◌+◌, subst, sym}
use Rattle.lk_check_unit.proofs.Designated.{AreLeft, all_left, none_left, one_less}
use Rattle.lk_rules.proofs.Rests.{next_left, nothing_left}
use Rattle.lk_check_unit.proofs.Staying.{grows_none, grows_then}
use Rattle.lk_check_unit.proofs.designators.designators.Goals as goal

pub loop-d-init : goal.loop-d-init
loop-d-init c = record { grows = grows_none c.args.checker.now c.requires; left = all_left c.args.checker.now c.args.ds.now }

pub loop-d-preserved : goal.loop-d-preserved
loop-d-preserved c =
    record {
      grows = grows_then c.args.checker.now c.loop-d.checker c.designator.new.checker c.loop-d.invariant.grows c.in_ok-is_typed.ensures.grows;
      left =
          subst (λ b. AreLeft c.args.checker.now c.designator.new.checker b c.args.ds.now (drop (c.loop-d.d-index + 1) c.args.ds.now)) (sym c.both-are_typed.ensures)
          (one_less c.args.checker.now c.loop-d.checker c.designator.new.checker c.loop-d.are_typed c.in_ok-is_typed.is_typed c.args.ds.now (drop c.loop-d.d-index c.args.ds.now)
          (drop (c.loop-d.d-index + 1) c.args.ds.now) c.d-item.result (next_left c.args.ds.now c.loop-d.d-index c.d-item.result c.loop-d-test.true c.d-item.is) c.loop-d.invariant.left
          c.in_ok-is_typed.ensures.walks);
    }

pub returns-clause-walks : goal.returns-clause-walks
returns-clause-walks c =
    none_left c.args.checker.now c.loop-d.checker c.loop-d.are_typed c.args.ds.now (drop c.loop-d.d-index c.args.ds.now) c.loop-d.invariant.grows.sound
    (nothing_left c.args.ds.now c.loop-d.d-index c.loop-d-test.false) c.loop-d.invariant.left
