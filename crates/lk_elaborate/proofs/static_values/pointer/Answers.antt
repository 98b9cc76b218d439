use Rattle.lk_elaborate.proofs.MakingStatics.{pointer_begins}
use Rattle.lk_elaborate.proofs.static_values.pointer.Goals as goal

pub returns-clause-value : goal.returns-clause-value
returns-clause-value c externs unit told tables leads env t type node =
    pointer_begins externs unit c.args.walk.now c.given_value.new.walk c.in_ok-node.ensures.grows told tables leads c.args.ty c.args.e.now env t type node c.in_ok-value.value c.in_ok-node.node c.requires
    c.in_ok-value.ensures c.in_ok-node.ensures.made
