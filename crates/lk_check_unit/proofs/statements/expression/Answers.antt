use Rattle.lk_check_unit.proofs.Forming as forming
use Rattle.lk_check_unit.proofs.statements.expression.Goals as goal

pub returns-clause-walks : goal.returns-clause-walks
returns-clause-walks c = λ n. forming.done n c.args.e.now c.args.checker.now c.dropped_if_any.new.checker c.args.body.now c.in_ok-asked.asked c.in_ok-asked.ensures.asks
