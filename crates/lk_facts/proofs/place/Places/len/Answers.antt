use Rattle.std.proofs.Common.{subst}
use Rattle.lk_facts.proofs.Numbers.{different}
use Rattle.lk_facts.proofs.Same.{same_place, place_itself}
use Rattle.lk_facts.specs.Places.{AreDifferent}
use Rattle.lk_facts.proofs.place.Places.len.Goals as goal

pub returns-clause-different : goal.returns-clause-different
returns-clause-different c = subst AreDifferent c.self.view_is (different _ same_place place_itself _ c.len.ensures.unique)
