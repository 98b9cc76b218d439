use Rattle.std.proofs.Common.{◌<◌, length, sym, ◌∙◌, ⊎_elim}
use Rattle.std.proofs.lemmas.Bool.{or_cases}
use Rattle.lk_links.proofs.SetLemmas.{All-from_has_id, All-has_id}
use Rattle.lk_order.proofs.giving.join_outside.Goals as goal

pub returns-clause-in_range : goal.returns-clause-in_range
returns-clause-in_range c =
    let few = length c.args.facts.now.labels.entries in
    All-from_has_id (λ x. x < few) c.in_ok-all.field-0
    (λ x there. ⊎_elim
    (All-has_id (λ y. y < few) c.args.all.now x c.requires.all)
    (All-has_id (λ y. y < few) c.in_ok-more.more x c.in_ok-more.ensures.in_range)
    (or_cases _ _ (sym (c.in_ok-all.ensures.members x) ∙ there)))
