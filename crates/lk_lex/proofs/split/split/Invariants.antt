use Rattle.std.proofs.Common.{length}
use Rattle.lk_lex.specs.Tokens.{start_of}
use Rattle.lk_lex.proofs.Splitting.{Upto}
use Rattle.lk_lex.proofs.split.split.Given as goal

abbrev pub invariant-loop-rest : goal.invariant-loop-rest
invariant-loop-rest l = Upto l.fn.files (start_of l.own) l.source l.files l.place l.rest l.found.items

abbrev pub decreases-loop-rest : goal.decreases-loop-rest
decreases-loop-rest l = length l.rest
