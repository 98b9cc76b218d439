use Rattle.std.proofs.Common.{sym, ◌∙◌}
use Rattle.lk_lex.proofs.Fronts.{punct-within}
use Rattle.lk_lex.proofs.front.punct_front.Goals as goal

pub returns-in-Some-clause-within : goal.returns-in-Some-clause-within
returns-in-Some-clause-within c = rw c.text.ensures (punct-within c.args.bytes.now c.in-Some.punct (sym c.punct_in_front.ensures ∙ c.in-Some.is))
