use Rattle.std.proofs.Common.{◌≡◌, drop, ◌++◌}
use Rattle.std.specs.Prelude.{map}
use Rattle.lk_birth.specs.Births.{local_object}
use Rattle.lk_birth.proofs.births.local_objects.Given as goal

abbrev pub invariant-loop-root : goal.invariant-loop-root
invariant-loop-root l = l.objects.items ++ map (local_object l.points l.function l.args) (drop l.root-index l.locals) ≡ map (local_object l.points l.function l.args) l.locals
