use Rattle.lk_elaborate.proofs.Making.{given}
use Rattle.lk_elaborate.proofs.statements.returned_value.Goals as goal

pub returns-clause-makes : goal.returns-clause-makes
returns-clause-makes c = given c.args.walk.now c.given_value.new.walk c.args.e.now c.args.t c.in_ok-value.value c.in_ok-value.ensures.made
