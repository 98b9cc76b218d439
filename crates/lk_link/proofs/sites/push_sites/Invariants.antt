use Rattle.lk_link.specs.Sites.{Grows, IsOfBelow, IsOfAt, IsSiteAt}
use Rattle.lk_link.proofs.sites.push_sites.Given as goal

abbrev pub invariant-loop-declaration : goal.invariant-loop-declaration
invariant-loop-declaration l = Grows l.initial.all.items l.all.items (IsOfBelow (IsOfAt (IsSiteAt l.entity) l.declarations) l.declaration-index)
