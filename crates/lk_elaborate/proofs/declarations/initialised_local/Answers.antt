use Rattle.lk_elaborator.proofs.Growing.{grows_on}
use Rattle.lk_elaborate.proofs.Declaring.{one_init_made}
use Rattle.lk_elaborate.proofs.declarations.initialised_local.Goals as goal

pub returns-clause-makes : goal.returns-clause-makes
returns-clause-makes c =
    one_init_made c.args.walk.now c.local_init.new.walk c.args.ordinal c.args.ty c.args.init.now c.in_ok-given.given c.args.inits.now c.push.new.self c.in_ok-push.ensures.ok c.in_ok-given.ensures.init

pub returns-clause-goes_on : goal.returns-clause-goes_on
returns-clause-goes_on c = grows_on c.args.walk.now c.local_init.new.walk c.in_ok-given.ensures.grows
