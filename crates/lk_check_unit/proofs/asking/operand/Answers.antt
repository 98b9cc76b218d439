use Rattle.lk_check_unit.proofs.Asked.{grows_further, operand_found, operand_walks}
use Rattle.lk_check_unit.proofs.asking.operand.Goals as goal

pub returns-clause-grows : goal.returns-clause-grows
returns-clause-grows c = grows_further c.args.checker.now c.judge.new.checker c.in_ok-found.ensures.further

pub returns-clause-walks : goal.returns-clause-walks
returns-clause-walks c = operand_walks c.args.checker.now c.judge.new.checker c.args.e.now c.in_ok-found.found c.in_ok-found.ensures.judged

pub returns-clause-found : goal.returns-clause-found
returns-clause-found c = operand_found c.args.checker.now c.judge.new.checker c.args.e.now c.in_ok-found.found c.in_ok-found.ensures.judged
