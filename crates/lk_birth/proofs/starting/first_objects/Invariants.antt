use Rattle.std.proofs.Common.{◌≡◌, ◌<◌, ◌^◌, drop, length}
use Rattle.std.specs.Prelude.{fold, map}
use Rattle.lk_birth.specs.Starts.{initialised, first_objects}
use Rattle.lk_birth.proofs.starting.first_objects.Given as goal

abbrev pub invariant-loop-initial : goal.invariant-loop-initial
invariant-loop-initial l = (fold (initialised l.points) l.objects.items (drop l.initial-index l.points.initials) ≡ first_objects l.points (map (λ text. text.items) l.strings)) × (length l.objects.items < 2 ^ 32)
