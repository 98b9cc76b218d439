use Rattle.std.proofs.Common.{subst}
use Rattle.lk_check_unit.specs.Bodies.{WalksItems}
use Rattle.lk_check_unit.proofs.Bodied.{body_walked}
use Rattle.lk_check_unit.proofs.definitions.body.Goals as goal

pub returns-clause-walks : goal.returns-clause-walks
returns-clause-walks c =
    body_walked c.args.checker.now c.enter_body.new.checker c.block_items.new.checker c.leave.new.checker c.args.s.now c.args.headed c.in_ok-body.body c.block_items.new.body c.in_ok-mark.mark
    c.in_ok-mark.ensures c.in_ok-body.ensures.around c.in_ok-body.ensures.returned
    (subst (λ items. WalksItems items c.enter_body.new.checker c.block_items.new.checker c.in_ok-body.body c.block_items.new.body) c.items_of.ensures c.in_ok-block_items.ensures.walks) c.leave.ensures
