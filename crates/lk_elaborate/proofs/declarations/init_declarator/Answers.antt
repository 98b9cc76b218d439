use Rattle.lk_elaborate.proofs.Carried.{goes_then}
use Rattle.lk_elaborate.proofs.Declaring.{bare, behind_name}
use Rattle.lk_elaborate.proofs.PuttingDeclared as put
use Rattle.lk_elaborate.proofs.declarations.init_declarator.Goals as goal

pub returns-in_ok-initialised-in-Some-clause-makes : goal.returns-in_ok-initialised-in-Some-clause-makes
returns-in_ok-initialised-in-Some-clause-makes c =
    behind_name c.args.walk.now c.put_name.new.walk c.initialised.new.walk c.args.d.now c.in_ok-named.named c.in-Some.init c.args.inits.now c.initialised.new.inits c.in_ok-put_name.ensures.goes_on
    c.in_ok-named.ensures c.in-Some.is c.in_ok-initialised-in-Some.ensures.makes

pub returns-in_ok-initialised-in-Some-clause-goes_on : goal.returns-in_ok-initialised-in-Some-clause-goes_on
returns-in_ok-initialised-in-Some-clause-goes_on c =
    goes_then c.args.walk.now c.put_name.new.walk c.initialised.new.walk c.in_ok-put_name.ensures.goes_on c.in_ok-initialised-in-Some.ensures.goes_on

pub returns-in-None-clause-makes : goal.returns-in-None-clause-makes
returns-in-None-clause-makes c = bare c.args.walk.now c.put_name.new.walk c.args.d.now c.args.inits.now c.in-None.is

pub returns-in_ok-initialised-in-Some-clause-puts : goal.returns-in_ok-initialised-in-Some-clause-puts
returns-in_ok-initialised-in-Some-clause-puts c =
    put.given_put c.args.scope c.args.walk.now c.put_name.new.walk c.initialised.new.walk c.args.d.now c.in_ok-named.named c.in_ok-named.ensures c.in_ok-put_name.ensures.goes_on
    c.in_ok-put_name.ensures.puts
    c.in-Some.init c.in-Some.is c.in_ok-initialised-in-Some.ensures.goes_on c.in_ok-initialised-in-Some.ensures.puts

pub returns-in-None-clause-puts : goal.returns-in-None-clause-puts
returns-in-None-clause-puts c =
    put.bare_put c.args.scope c.args.walk.now c.put_name.new.walk c.put_name.new.walk c.args.d.now c.in_ok-named.named c.in_ok-named.ensures c.in_ok-put_name.ensures.goes_on
    c.in_ok-put_name.ensures.puts
    c.in-None.is
