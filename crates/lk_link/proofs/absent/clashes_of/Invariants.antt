use Rattle.std.proofs.Common.{[]}
use Rattle.lk_link.specs.Sites.{Grows, IsOfBelow, IsOfAt}
use Rattle.lk_link.proofs.Lacking.{IsAbsentFrom}
use Rattle.lk_link.proofs.absent.clashes_of.Given as goal

abbrev pub invariant-loop-at : goal.invariant-loop-at
invariant-loop-at l = Grows [] l.clashes.items (IsOfBelow (IsOfAt (IsAbsentFrom l.units l.names l.users l.externs) l.names.externals) l.at-index)
