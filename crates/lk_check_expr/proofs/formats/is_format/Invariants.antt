use Rattle.std.proofs.Common.{◌≡◌, drop}
use Rattle.lk_typed.specs.Calls as spec
use Rattle.lk_check_expr.specs.Formats.{scanned_in}
use Rattle.lk_check_expr.proofs.formats.is_format.Given as goal

-- it is a format where the bytes that are left end one from here
abbrev pub invariant-loop-byte : goal.invariant-loop-byte
invariant-loop-byte l = spec.is_format_from (drop l.byte-index l.bytes) (scanned_in l.state) ≡ spec.is_format l.bytes
