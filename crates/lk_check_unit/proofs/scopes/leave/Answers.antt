use Rattle.std.proofs.Common.{refl, ap}
use Rattle.lk_names.specs.InScope.{InScope}
use Rattle.lk_check_unit.proofs.Walking.{leaves_by}
use Rattle.lk_check_unit.proofs.scopes.leave.Goals as goal

pub returns : goal.returns
returns c = leaves_by _ _ c.args.mark refl refl refl refl (ap (λ (n : InScope). n.structs) c.leave.ensures.value) c.leave.ensures.leaves c.leave.ensures.known
