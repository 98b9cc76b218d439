use Rattle.std.proofs.Common.{◌≡◌, drop}
use Rattle.lk_typed.specs.Meaning.{meaning}
use Rattle.lk_link.proofs.LibraryRows.{are_passed}
use Rattle.lk_link.proofs.library_types.are_parameters.Given as goal

abbrev pub invariant-loop-place : goal.invariant-loop-place
invariant-loop-place l = are_passed (meaning l.types) l.ts l.parameters ≡ are_passed (meaning l.types) (drop l.place l.ts) (drop l.place l.parameters)
