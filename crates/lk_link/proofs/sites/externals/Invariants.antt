use Rattle.std.proofs.Common.{[]}
use Rattle.lk_link.specs.Sites.{Grows, IsOfBelow}
use Rattle.lk_link.proofs.Naming.{IsExternalIn}
use Rattle.lk_link.proofs.sites.externals.Given as goal

abbrev pub invariant-loop-source : goal.invariant-loop-source
invariant-loop-source l = Grows [] l.all.items (IsOfBelow (IsExternalIn l.units) l.source)
