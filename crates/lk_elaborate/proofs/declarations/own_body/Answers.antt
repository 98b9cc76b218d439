use Rattle.std.proofs.Common.{refl}
use Rattle.lk_typed.specs.declared.entity.Linkage.TheVariants as linkage
use Rattle.lk_elaborate.proofs.PuttingDeclared.{none_in_block}
use Rattle.lk_elaborate.proofs.declarations.own_body.Goals as goal

pub returns-in_ok-this_body-in-Block : goal.returns-in_ok-this_body-in-Block
returns-in_ok-this_body-in-Block c =
    none_in_block c.args.scope c.args.walk.now linkage.None c.in_ok-this_body-in-Block.field-0 refl c.in-Block.is c.in_ok-this_body-in-Block.ensures
