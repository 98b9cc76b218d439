use Rattle.lk_check_unit.proofs.Designated.{by_index}
use Rattle.lk_check_unit.proofs.designators.designator.Goals as goal

pub returns-in_ok-asked-in-Index-clause-walks : goal.returns-in_ok-asked-in-Index-clause-walks
returns-in_ok-asked-in-Index-clause-walks c = by_index c.args.d.now c.in-Index.e c.args.checker.now c.condition.new.checker c.in_ok-asked-in-Index.asked c.in-Index.is c.in_ok-asked-in-Index.ensures.asks
