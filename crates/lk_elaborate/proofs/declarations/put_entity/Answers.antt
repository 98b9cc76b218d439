use Rattle.std.proofs.Common.{refl}
use Rattle.lk_elaborate.proofs.PuttingDeclared.{entity_put}
use Rattle.lk_elaborate.proofs.declarations.put_entity.Goals as goal

pub returns-clause-puts : goal.returns-clause-puts
returns-clause-puts c =
    entity_put c.args.scope c.args.walk.now (record c.args.walk.now { entities = c.declare.new.self })
    c.args.named.now c.args.declared.now c.args.kind c.in_ok-name.name c.in_ok-body.body c.in_ok-name.ensures
    c.in_ok-body.ensures refl c.in_ok-declare.ensures.gathers c.in_ok-declare.ensures.rises
