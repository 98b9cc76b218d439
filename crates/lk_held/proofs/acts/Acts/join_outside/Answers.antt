use Rattle.std.proofs.Common.{◌≡◌, ◌<◌, All, length, ap, subst, sym, ◌∙◌, ⊎_elim, arith}
use Rattle.std.proofs.lemmas.Bool.{or_cases}
use Rattle.lk_facts.proofs.Sets.{All-read}
use Rattle.lk_facts.specs.Origins.{IsSetBelow}
use Rattle.lk_links.proofs.SetLemmas.{All-from_has_id, All-has_id}
use Rattle.lk_held.proofs.acts.Acts.join_outside.Goals as goal

pub outside-requires : goal.outside-requires
outside-requires c =
    let self = c.args.self.now in
    let few : length self.labels.now.entries ≡ length self.facts.now.labels.entries = ap (λ l. length l.entries) self.same_labels in
    let set = All-read (IsSetBelow (length self.labels.now.entries)) c.args.released.now c.args.link.now.below c.index-released-link.result c.requires.sets.below.each (omega (arith, c.requires.below, c.requires.sets.all)) c.index-released-link.is in
    subst (λ n. All (λ x. x < n) c.ids-ids.result.now) few (subst (All (λ x. x < length self.labels.now.entries)) (sym c.ids-ids.ensures.list) set.below)

pub returns-clause-in_range : goal.returns-clause-in_range
returns-clause-in_range c =
    let self = c.args.self.now in
    let few : length self.labels.now.entries ≡ length self.facts.now.labels.entries = ap (λ l. length l.entries) self.same_labels in
    let small = subst (λ n. All (λ x. x < n) c.in_ok-dropped.dropped) (sym few) c.in_ok-dropped.ensures.in_range in
    All-from_has_id (λ x. x < length self.labels.now.entries) c.in_ok-all.field-0
    (λ x there. ⊎_elim
    (All-has_id (λ y. y < length self.labels.now.entries) c.args.all.now x c.requires.all)
    (All-has_id (λ y. y < length self.labels.now.entries) c.in_ok-dropped.dropped x small)
    (or_cases _ _ (sym (c.in_ok-all.ensures.members x) ∙ there)))
