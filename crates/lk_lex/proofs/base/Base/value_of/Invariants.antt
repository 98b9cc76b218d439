use Rattle.std.proofs.Common.{◌≡◌, ◌<◌, ◌^◌, drop}
use Rattle.lk_lex.specs.Numbers.{value_from, value_of}
use Rattle.lk_lex.proofs.base.Base.value_of.Given as goal

abbrev pub invariant-loop-digit : goal.invariant-loop-digit
invariant-loop-digit l = record { rest : value_from l.self l.value (drop l.digit-index l.digits) ≡ value_of l.self l.digits; fits : l.value < 2 ^ 64 }
