use Rattle.std.proofs.Common.{◌≡◌, ◌<◌, All, length, ap, subst, sym, ◌∙◌}
use Rattle.lk_order.specs.Acts.{basis_in}
use Rattle.lk_order.specs.Left.{is_left}
use Rattle.lk_held.proofs.AddLemmas.{meets_is}
use Rattle.lk_order.proofs.DroppingLemmas.{left_within}
use Rattle.lk_sets.specs.Ids.{has_id}
use Rattle.lk_order.proofs.acts.Acts.meet_risen.Goals as goal

pub risen-requires : goal.risen-requires
risen-requires c =
    let self = c.args.self.now in
    let few : length self.labels.now.entries ≡ length self.facts.now.labels.entries = ap (λ l. length l.entries) self.same_labels in
    subst (λ n. All (λ x. x < n) c.ids.result.now) few
    (subst (All (λ x. x < length self.labels.now.entries)) (sym (c.ids.ensures.list ∙ c.at.ensures)) (left_within (basis_in self) c.args.states.now c.exit-exit.result c.requires.states))

pub returns-clause-runs : goal.returns-clause-runs
returns-clause-runs c = λ runs.
    meets_is (basis_in c.args.self.now) (is_left c.args.states.now) c.args.link.now c.exit-exit.result c.ids.result.now c.in_ok-ids.ids c.in_ok-met.met c.args.all.now c.exit-exit.ensures.value
    (λ x. ap (λ s. has_id s x) (c.ids.ensures.list ∙ c.at.ensures)) c.in_ok-ids.ensures.exact c.in_ok-met.ensures
