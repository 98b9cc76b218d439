use Rattle.std.proofs.Common.{[]}
use Rattle.lk_link.specs.Sites.{Grows, IsOfBelow, IsOfAt}
use Rattle.lk_link.proofs.Placing.{IsNamedClash}
use Rattle.lk_link.proofs.Redefining.{IsAgainIn}
use Rattle.lk_link.proofs.again.defined_twice.Given as goal

abbrev pub invariant-loop-site : goal.invariant-loop-site
invariant-loop-site l = Grows [] l.clashes.items (IsOfBelow (IsOfAt (IsNamedClash l.units (IsAgainIn l.names)) l.names.sites) l.site-index)
