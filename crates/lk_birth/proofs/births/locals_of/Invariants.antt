use Rattle.std.proofs.Common.{◌≡◌}
use Rattle.lk_birth.specs.Births.{locals_below}
use Rattle.lk_birth.proofs.births.locals_of.Given as goal

-- the locals so far
abbrev pub invariant-loop-root : goal.invariant-loop-root
invariant-loop-root l = l.locals.items ≡ locals_below l.points l.function l.root
