use Rattle.std.proofs.Common.{◌≡◌}
use Rattle.std.specs.Prelude.{map}
use Rattle.lk_birth.specs.Starts.{objects_below}
use Rattle.lk_birth.proofs.starting.bare_objects.Given as goal

-- the objects so far
abbrev pub invariant-loop-root : goal.invariant-loop-root
invariant-loop-root l = l.objects.items ≡ objects_below l.points (map (λ text. text.items) l.strings) l.root
