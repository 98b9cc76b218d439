use Rattle.std.proofs.Common.{refl}
use Rattle.lk_check_unit.proofs.Naming.{same_name}
use Rattle.lk_check_unit.proofs.declared.written.Goals as goal

pub returns-clause-value : goal.returns-clause-value
returns-clause-value c = same_name c.in_ok-name.ensures c.meaning_of.ensures.value refl refl refl
