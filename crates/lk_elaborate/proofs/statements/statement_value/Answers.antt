use Rattle.lk_elaborate.proofs.Making.{valued}
use Rattle.lk_elaborate.proofs.statements.statement_value.Goals as goal

pub returns-clause-makes : goal.returns-clause-makes
returns-clause-makes c =
    valued c.args.walk.now c.expression.new.walk c.value_node.new.walk c.args.e.now c.in_ok-node.node c.in_ok-value.value c.in_ok-node.ensures.grows c.in_ok-node.ensures.made
    c.in_ok-value.ensures.grows c.in_ok-value.ensures.value
