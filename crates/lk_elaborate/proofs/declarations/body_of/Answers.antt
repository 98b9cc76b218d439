use Rattle.lk_elaborate.proofs.PuttingDeclared.{linked_anywhere}
use Rattle.lk_elaborate.proofs.declarations.body_of.Goals as goal

pub returns-in-External : goal.returns-in-External
returns-in-External c = linked_anywhere c.args.scope c.args.walk.now c.args.linkage c.in-External.is
