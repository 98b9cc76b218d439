use Rattle.std.proofs.Common.{◌≡◌, drop, ◌++◌, ◌+◌}
use Rattle.lk_birth.specs.Births.{numbered_from}
use Rattle.lk_birth.proofs.births.numbered_from.Given as goal

abbrev pub invariant-loop-root : goal.invariant-loop-root
invariant-loop-root l = (l.object ≡ l.first + l.root-index) × (l.numbered.items ++ numbered_from l.object (drop l.root-index l.locals) ≡ numbered_from l.first l.locals)
