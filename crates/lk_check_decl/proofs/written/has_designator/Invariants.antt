use Rattle.std.proofs.Common.{◌≡◌, drop}
use Rattle.lk_typed.specs.Initialisers as spec
use Rattle.lk_check_decl.proofs.written.has_designator.Given as goal

abbrev pub invariant-loop-entry : goal.invariant-loop-entry
invariant-loop-entry l = spec.has_designator l.entries ≡ spec.has_designator (drop l.entry-index l.entries)
