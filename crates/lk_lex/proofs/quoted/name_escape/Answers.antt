use Rattle.std.proofs.Common.{refl, ◌∙◌}
use Rattle.lk_lex.specs.Characters.{name_escape, name_escape_by}
use Rattle.lk_lex.proofs.Firsts.{by_first, empty_first}
use Rattle.lk_lex.proofs.quoted.name_escape.Goals as goal

pub returns-in-Some-clause-value : goal.returns-in-Some-clause-value
unfolding name_escape
returns-in-Some-clause-value c = c.name_escape_by.ensures.value ∙ by_first name_escape name_escape_by (λ x xs. refl) c.args.bytes.now c.in-Some.first.now c.in-Some.ensures.value

pub returns-in-None-clause-value : goal.returns-in-None-clause-value
unfolding name_escape
returns-in-None-clause-value c = rw (empty_first c.args.bytes.now c.in-None.ensures.value) refl
