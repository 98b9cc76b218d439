use Rattle.std.proofs.Common.{refl, ◌∙◌}
use Rattle.lk_lex.specs.Characters.{item, item_by}
use Rattle.lk_lex.proofs.Firsts.{by_first, empty_first}
use Rattle.lk_lex.proofs.quoted.item_in_front.Goals as goal

pub returns-in-Some-clause-value : goal.returns-in-Some-clause-value
unfolding item
returns-in-Some-clause-value c =
    c.item_by.ensures.value ∙ by_first (item c.args.quotation) (item_by c.args.quotation) (λ x xs. refl) c.args.bytes.now c.in-Some.first.now c.in-Some.ensures.value

pub returns-in-None-clause-value : goal.returns-in-None-clause-value
unfolding item
returns-in-None-clause-value c = rw (empty_first c.args.bytes.now c.in-None.ensures.value) refl
