use Rattle.std.proofs.Common.{◌≡◌, drop}
use Rattle.lk_change.specs.Fills.{next_absent}
use Rattle.lk_change.proofs.fills.next_absent.Given as goal

abbrev pub invariant-loop-one : goal.invariant-loop-one
invariant-loop-one l = next_absent l.types l.object.length l.object.ty l.named (drop l._one-index l.named) l.at ≡ next_absent l.types l.object.length l.object.ty l.named l.named l.path
