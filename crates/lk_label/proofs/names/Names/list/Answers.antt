use Rattle.std.proofs.Common.{subst}
use Rattle.lk_facts.proofs.Numbers.{different}
use Rattle.lk_facts.proofs.Same.{same_name, name_itself}
use Rattle.lk_facts.specs.Places.{AreDifferent}
use Rattle.lk_label.proofs.names.Names.list.Goals as goal

pub returns-clause-different : goal.returns-clause-different
returns-clause-different c = subst AreDifferent c.self.view_is (different _ same_name name_itself _ c.as_slice.ensures.unique)
