use Rattle.std.proofs.Common.{◌≡◌, drop}
use Rattle.lk_lex.specs.Front.{comment_len}
use Rattle.lk_lex.proofs.Quoting.{more}
use Rattle.lk_lex.proofs.front.comment_len.Given as goal

abbrev pub invariant-loop-len : goal.invariant-loop-len
invariant-loop-len l = comment_len 0 l.bytes ≡ more l.len (comment_len l.before (drop l.len l.bytes))
