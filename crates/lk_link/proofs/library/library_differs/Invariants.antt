use Rattle.std.proofs.Common.{[]}
use Rattle.lk_link.specs.Library.{IsOtherClashAt}
use Rattle.lk_link.specs.Sites.{Grows, IsOfBelow, IsOfAt}
use Rattle.lk_link.proofs.Placing.{IsNamedClash}
use Rattle.lk_link.proofs.library.library_differs.Given as goal

abbrev pub invariant-loop-site : goal.invariant-loop-site
invariant-loop-site l = Grows [] l.clashes.items (IsOfBelow (IsOfAt (IsNamedClash l.units (IsOtherClashAt l.units)) l.names.sites) l.site-index)
