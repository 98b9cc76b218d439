use Rattle.lk_elaborate.proofs.Casing.{switch_found}
use Rattle.lk_elaborate.proofs.statements.switch_cases.Goals as goal

pub returns : goal.returns
returns c = switch_found c.args.walk.now c.args.e.now c.args.inner.now c.in_ok-kind.kind c.in_ok-cases.cases c.in_ok-kind.ensures c.in_ok-cases.ensures
