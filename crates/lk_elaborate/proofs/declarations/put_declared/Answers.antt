use Rattle.std.proofs.Common.{refl, rules}
use Rattle.lk_found.specs.Named.{name_in}
use Rattle.lk_elaborate.proofs.PuttingDeclared.{local_put, typedef_put}
use Rattle.lk_elaborate.proofs.declarations.put_declared.Goals as goal

pub returns-in_ok-put_automatic-in-Object-default-Automatic-clause-puts : goal.returns-in_ok-put_automatic-in-Object-default-Automatic-clause-puts
returns-in_ok-put_automatic-in-Object-default-Automatic-clause-puts c =
    local_put c.args.scope c.args.walk.now c.put_automatic.new.walk c.args.named.now c.args.declared.now c.in-Object-default-Automatic.t c.in-Object-default-Automatic.field-1
    c.in-Object-default-Automatic.is
    (search rules) (name_in c.args.named.now).name refl c.in_ok-put_automatic-in-Object-default-Automatic.ensures.puts

pub returns-in-Typedef-clause-puts : goal.returns-in-Typedef-clause-puts
returns-in-Typedef-clause-puts c = typedef_put c.args.scope c.args.walk.now c.args.named.now c.args.declared.now c.in-Typedef.field-0 c.in-Typedef.is
