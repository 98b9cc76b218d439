use Rattle.std.proofs.Common.{rules, sym, subst}
use Rattle.lk_elaborate.specs.Declaring.{MakesRecorded}
use Rattle.lk_elaborate.proofs.Declaring.{local_made, static_made}
use Rattle.lk_elaborate.proofs.PuttingDeclared as put
use Rattle.lk_elaborate.proofs.declarations.initialised_as.Goals as goal

pub returns-in_ok-put_static_object-in-Object-default-Static-clause-makes : goal.returns-in_ok-put_static_object-in-Object-default-Static-clause-makes
returns-in_ok-put_static_object-in-Object-default-Static-clause-makes c =
    static_made c.args.walk.now c.put_static_object.new.walk c.args.named.now c.args.declared.now _ c.in-Object-default-Static.field-1 c.args.init.now c.args.inits.now
    c.in-Object-default-Static.is (search rules)

pub returns-in_ok-initialised_local-in-Object-default-Automatic-clause-makes : goal.returns-in_ok-initialised_local-in-Object-default-Automatic-clause-makes
returns-in_ok-initialised_local-in-Object-default-Automatic-clause-makes c =
    let one = c.in_ok-initialised_local-in-Object-default-Automatic.ensures.makes in
    subst (MakesRecorded c.args.walk.now c.initialised_local.new.walk c.args.named.now c.args.declared.now c.args.init.now c.args.inits.now) (sym one.1)
    (local_made c.args.walk.now c.initialised_local.new.walk c.args.named.now c.args.declared.now _ c.in-Object-default-Automatic.field-1 c.args.init.now c.args.inits.now one.0
    c.in-Object-default-Automatic.is (search rules) one.2)

pub returns-in_ok-put_static_object-in-Object-default-Static-clause-puts : goal.returns-in_ok-put_static_object-in-Object-default-Static-clause-puts
returns-in_ok-put_static_object-in-Object-default-Static-clause-puts c =
    put.static_given c.args.walk.now c.put_static_object.new.walk c.args.named.now c.args.declared.now _ c.in-Object-default-Static.field-1 c.args.init.now c.in-Object-default-Static.is (search rules)
    c.in_ok-put_static_object-in-Object-default-Static.ensures.puts

pub returns-in_ok-initialised_local-in-Object-default-Automatic-clause-puts : goal.returns-in_ok-initialised_local-in-Object-default-Automatic-clause-puts
returns-in_ok-initialised_local-in-Object-default-Automatic-clause-puts c =
    put.local_given c.args.walk.now c.initialised_local.new.walk c.args.named.now c.args.declared.now _ c.in-Object-default-Automatic.field-1 c.args.init.now c.in-Object-default-Automatic.is
    (search rules)
    c.in_ok-initialised_local-in-Object-default-Automatic.ensures.grows
