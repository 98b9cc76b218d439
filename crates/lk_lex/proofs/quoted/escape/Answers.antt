use Rattle.std.proofs.Common.{refl, ◌∙◌}
use Rattle.lk_lex.specs.Characters.{escape, escape_by}
use Rattle.lk_lex.proofs.Firsts.{by_first, empty_first}
use Rattle.lk_lex.proofs.quoted.escape.Goals as goal

pub returns-in-Some-clause-value : goal.returns-in-Some-clause-value
unfolding escape
returns-in-Some-clause-value c = c.escape_by.ensures.value ∙ by_first escape escape_by (λ x xs. refl) c.args.bytes.now c.in-Some.first.now c.in-Some.ensures.value

pub returns-in-None-clause-value : goal.returns-in-None-clause-value
unfolding escape
returns-in-None-clause-value c = rw (empty_first c.args.bytes.now c.in-None.ensures.value) refl
