use Rattle.lk_elaborate.proofs.Casing.{found_cases}
use Rattle.lk_elaborate.proofs.cases.cases_of.Goals as goal

pub returns : goal.returns
returns c = found_cases c.args.walk.now c.args.kind c.args.s.now c.new-found.result c.put.new.self c.new-found.ensures.cases c.new-found.ensures.default c.in_ok-put.ensures
