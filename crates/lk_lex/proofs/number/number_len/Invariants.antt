use Rattle.std.proofs.Common.{◌≡◌, ◌+◌, drop}
use Rattle.lk_lex.specs.Numbers.{number_len}
use Rattle.lk_lex.proofs.number.number_len.Given as goal

abbrev pub invariant-loop-len : goal.invariant-loop-len
invariant-loop-len l = number_len 0 l.bytes ≡ l.len + number_len l.before (drop l.len l.bytes)
