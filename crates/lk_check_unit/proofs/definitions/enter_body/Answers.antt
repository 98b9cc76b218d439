use Rattle.lk_check_unit.proofs.Bodied.{body_entered}
use Rattle.lk_check_unit.proofs.definitions.enter_body.Goals as goal

pub returns : goal.returns
returns c =
    body_entered c.args.checker.now c.enter-mark.new.checker c.declare_parameters.new.checker c.args.parameters c.enter-mark.result c.enter-mark.ensures c.in_ok-declare_parameters.ensures
