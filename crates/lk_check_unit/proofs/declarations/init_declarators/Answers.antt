use Rattle.std.proofs.Common.{◌+◌, drop, sym, subst}
use Rattle.lk_check_unit.proofs.Declares.{AreLeft, all_left, none_left, one_less}
use Rattle.lk_rules.proofs.Rests.{next_left, nothing_left}
use Rattle.lk_check_unit.proofs.Standing.{result_known}
use Rattle.lk_check_unit.proofs.Staying.{grows_none, grows_then}
use Rattle.lk_check_unit.proofs.declarations.init_declarators.Goals as goal

pub loop-d-init : goal.loop-d-init
loop-d-init c =
    record { grows = grows_none c.args.checker.now c.requires.sound; known = c.requires.known; left = all_left c.args.checker.now c.args.scope c.args.told.now c.args.pending.now c.args.list.now }

pub loop-d-preserved : goal.loop-d-preserved
loop-d-preserved c =
    record {
      grows = grows_then c.args.checker.now c.loop-d.checker c.init_declarator.new.checker c.loop-d.invariant.grows c.in_ok-hides.ensures.grows;
      known = result_known c.loop-d.checker.types c.init_declarator.new.checker.types c.loop-d.invariant.grows.sound.ready.table_is c.in_ok-hides.ensures.grows.longer c.args.told.now.ty c.loop-d.invariant.known;
      left =
          subst (λ b. AreLeft c.args.checker.now c.init_declarator.new.checker c.args.scope c.args.told.now c.args.pending.now c.init_declarator.new.pending b c.args.list.now (drop (c.loop-d.d-index + 1) c.args.list.now))
          (sym c.either-is_hidden.ensures)
          (one_less c.args.checker.now c.loop-d.checker c.init_declarator.new.checker c.args.scope c.args.told.now c.args.pending.now c.loop-d.pending c.init_declarator.new.pending c.loop-d.is_hidden c.in_ok-hides.hides
          c.args.list.now (drop c.loop-d.d-index c.args.list.now) (drop (c.loop-d.d-index + 1) c.args.list.now) c.d-item.result c.requires.sound c.loop-d.invariant.grows.sound c.loop-d.invariant.grows.longer
          c.in_ok-hides.ensures.grows.longer c.requires.known (next_left c.args.list.now c.loop-d.d-index c.d-item.result c.loop-d-test.true c.d-item.is) c.loop-d.invariant.left c.in_ok-hides.ensures.walks);
    }

pub returns-clause-walks : goal.returns-clause-walks
returns-clause-walks c =
    none_left c.args.checker.now c.loop-d.checker c.args.scope c.args.told.now c.args.pending.now c.loop-d.pending c.loop-d.is_hidden c.args.list.now (drop c.loop-d.d-index c.args.list.now)
    c.loop-d.invariant.grows.sound (nothing_left c.args.list.now c.loop-d.d-index c.loop-d-test.false) c.loop-d.invariant.left
