use Rattle.std.proofs.Common.{◌≡◌, drop}
use Rattle.lk_change.specs.Fills.{is_named}
use Rattle.lk_change.proofs.fills.is_named.Given as goal

abbrev pub invariant-loop-steps : goal.invariant-loop-steps
invariant-loop-steps l = is_named (drop l.steps-index l.named) l.path ≡ is_named l.named l.path
