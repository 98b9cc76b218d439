use Rattle.std.proofs.Common.{[]}
use Rattle.lk_link.specs.Sites.{Grows, IsOfBelow, IsOfAt}
use Rattle.lk_link.proofs.Naming.{IsSiteFrom}
use Rattle.lk_link.proofs.sites.sites.Given as goal

abbrev pub invariant-loop-entity : goal.invariant-loop-entity
invariant-loop-entity l = Grows [] l.all.items (IsOfBelow (IsOfAt (IsSiteFrom l.units) l.externals) l.entity-index)
