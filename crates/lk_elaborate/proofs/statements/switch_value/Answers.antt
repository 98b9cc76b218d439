use Rattle.lk_elaborate.proofs.Making.{promoted}
use Rattle.lk_elaborate.proofs.statements.switch_value.Goals as goal

pub returns-clause-makes : goal.returns-clause-makes
returns-clause-makes c =
    promoted c.args.walk.now c.expression.new.walk c.converted.new.walk c.args.e.now c.in_ok-target.target c.in_ok-node.node c.in_ok-value.value
    c.in_ok-target.ensures.known c.in_ok-target.ensures.value c.in_ok-node.ensures.grows c.in_ok-node.ensures.made c.in_ok-value.ensures.grows c.in_ok-value.ensures.converted
