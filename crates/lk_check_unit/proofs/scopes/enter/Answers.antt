use Rattle.std.proofs.Common.{refl, ap}
use Rattle.lk_names.specs.InScope.{InScope}
use Rattle.lk_check_unit.proofs.Walking.{enters_by}
use Rattle.lk_check_unit.proofs.scopes.enter.Goals as goal

pub returns : goal.returns
returns c = enters_by _ _ c.enter.result refl refl refl refl (ap (λ (n : InScope). n.structs) c.enter.ensures.value) c.enter.ensures.enters c.enter.ensures.mark c.enter.ensures.known
