use Rattle.std.proofs.Common.{subst}
use Rattle.std.specs.List.{IsDistinct}
use Rattle.lk_link.proofs.Meeting.{same_struct}
use Rattle.lk_join.proofs.Distinct.{distinct_places}
use Rattle.lk_join.proofs.struct_set.StructSet.len.Goals as goal

pub returns-clause-distinct : goal.returns-clause-distinct
returns-clause-distinct c = distinct_places c.args.self.now (subst (IsDistinct same_struct) c.self.view_is c.len.ensures.unique)
