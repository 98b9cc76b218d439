use Rattle.std.proofs.Common.{◌≡◌, drop}
use Rattle.std.specs.List.{position_from}
use Rattle.lk_birth.specs.Starts.{root_of}
use Rattle.lk_facts.specs.Program.{is_argv}
use Rattle.lk_birth.proofs.starting.argv_root.Given as goal

abbrev pub invariant-loop-root : goal.invariant-loop-root
invariant-loop-root l = position_from (λ root. is_argv root.kind) l.root (drop l.root l.points.roots) ≡ root_of is_argv l.points
