use Rattle.lk_check_unit.proofs.Asked.{constant_by, grows_further, operand_found, operand_walks}
use Rattle.lk_check_unit.proofs.asking.case_constant.Goals as goal

pub returns-clause-grows : goal.returns-clause-grows
returns-clause-grows c = grows_further c.args.checker.now c.judge.new.checker c.in_ok-found.ensures.further

pub returns-clause-walks : goal.returns-clause-walks
returns-clause-walks c = operand_walks c.args.checker.now c.judge.new.checker c.args.e.now c.in_ok-found.found c.in_ok-found.ensures.judged

pub returns-clause-constant : goal.returns-clause-constant
returns-clause-constant c =
    constant_by c.args.checker.now c.judge.new.checker.types c.args.e.now c.in_ok-found.found.typing _
    (operand_found c.args.checker.now c.judge.new.checker c.args.e.now c.in_ok-found.found c.in_ok-found.ensures.judged)
    (c.constant_of.ensures c.judge.new.checker.types)
