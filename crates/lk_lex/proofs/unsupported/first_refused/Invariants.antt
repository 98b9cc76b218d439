use Rattle.std.proofs.Common.{◌≡◌, drop}
use Rattle.lk_lex.specs.Answer.{first_refused}
use Rattle.lk_lex.proofs.unsupported.first_refused.Given as goal

abbrev pub invariant-loop-token : goal.invariant-loop-token
invariant-loop-token l = first_refused l.source l.tokens ≡ first_refused l.source (drop l.token-index l.tokens)
