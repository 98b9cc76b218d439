use Rattle.std.proofs.Common.{◌≡◌, drop}
use Rattle.std.specs.List.{enumerate_from}
use Rattle.std.specs.Prelude.{fold}
use Rattle.lk_birth.specs.Starts.{with_byte, with_bytes}
use Rattle.lk_birth.proofs.starting.put_bytes.Given as goal

abbrev pub invariant-loop-place : goal.invariant-loop-place
invariant-loop-place l = fold with_byte l.object (enumerate_from l.place (drop l.place l.bytes)) ≡ with_bytes l.fn.object l.bytes
