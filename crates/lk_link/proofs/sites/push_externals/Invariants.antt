use Rattle.std.proofs.Common.{◌≡◌, Some}
use Rattle.std.specs.List.{slice_get}
use Rattle.lk_typed.specs.declared.entity.Entity.{Entity}
use Rattle.lk_link.specs.Sites.{Grows, IsOfBelow, IsExternalAt}
use Rattle.lk_link.proofs.sites.push_externals.Given as goal

abbrev pub invariant-loop-number : goal.invariant-loop-number
invariant-loop-number l = Grows l.initial.all.items l.all.items (IsOfBelow (λ i at. (entity : Entity) × (slice_get l.entities i ≡ Some entity) × IsExternalAt l.source i entity at) l.number)
