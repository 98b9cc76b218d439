use Rattle.lk_elaborate.proofs.Declaring.{named_made}
use Rattle.lk_elaborate.proofs.declarations.initialised.Goals as goal

pub returns-in_ok-initialised_as-in-Ok-clause-makes : goal.returns-in_ok-initialised_as-in-Ok-clause-makes
returns-in_ok-initialised_as-in-Ok-clause-makes c =
    named_made c.args.walk.now c.initialised_as.new.walk c.args.named.now c.in-Ok.declared c.args.init.now c.args.inits.now c.initialised_as.new.inits c.in-Ok.ensures
    c.in_ok-initialised_as-in-Ok.ensures.makes

pub returns-in_ok-initialised_as-in-Ok-clause-puts : goal.returns-in_ok-initialised_as-in-Ok-clause-puts
returns-in_ok-initialised_as-in-Ok-clause-puts c = c.in_ok-initialised_as-in-Ok.ensures.puts c.in-Ok.ensures
