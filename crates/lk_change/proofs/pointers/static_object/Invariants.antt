use Rattle.std.proofs.Common.{◌≡◌, drop}
use Rattle.std.specs.Prelude.{nat_eq}
use Rattle.std.specs.List.{position_from}
use Rattle.lk_change.proofs.pointers.static_object.Given as goal

abbrev pub invariant-loop-place : goal.invariant-loop-place
invariant-loop-place l = position_from (λ object. nat_eq object.root l.root) l.place (drop l.place l.state.objects) ≡ position_from (λ object. nat_eq object.root l.root) 0 l.state.objects
