use Rattle.std.proofs.Common.{◌≡◌, ◌<◌, ◌↔◌, All, true, length, ap, sym, subst}
use Rattle.std.proofs.lemmas.Result.{on_ok_weaker}
use Rattle.lk_facts.specs.Flow.{Over}
use Rattle.lk_order.specs.Acts.{basis_in, linear_in, functions_in, labels_in}
use Rattle.lk_order.specs.Pairing.{IsPairBelow, IsPairOf, IsPairOutside}
use Rattle.lk_order.proofs.PairingLemmas.{outside_is, pairs_below}
use Rattle.lk_order.proofs.UpLemmas.{over_one}
use Rattle.lk_order.proofs.WorkLemmas.{finds_all, finds_as}
use Rattle.lk_sets.specs.Ids.{has_id}
use Rattle.lk_order.proofs.acts.Acts.put_outside_link.Goals as goal

pub returns-clause-finds : goal.returns-clause-finds
returns-clause-finds c =
    let self = c.args.self.now in
    let basis = basis_in self in
    let linear = linear_in self in
    let link = c.args.link.now in
    let held = over_one basis.flow link.way c.args.pair.held c.in_ok-held.held c.in_ok-held.ensures.exact in
    let wanted = over_one basis.flow link.way c.args.pair.wanted c.in_ok-wanted.wanted c.in_ok-wanted.ensures.exact in
    on_ok_weaker c.put_pairs.result
    (finds_as (IsPairOf link.above c.ids.result.now c.ids-2.result.now) (IsPairOutside basis linear c.args.pair link) c.args.pairs.now.keys c.put_pairs.new.pairs.keys
    (outside_is basis linear c.args.pair link c.ids.result.now c.ids-2.result.now
    (λ y. subst (λ ids. (has_id ids y ≡ true) ↔ Over basis.flow link.way c.args.pair.held y) (sym c.ids.ensures.list) (held.members y))
    (λ t. subst (λ ids. (has_id ids t ≡ true) ↔ Over basis.flow link.way c.args.pair.wanted t) (sym c.ids-2.ensures.list) (wanted.members t))))
    c.put_pairs.ensures

pub returns-clause-in_range : goal.returns-clause-in_range
returns-clause-in_range c =
    let self = c.args.self.now in
    let few : length self.labels.now.entries ≡ length self.facts.now.labels.entries = ap (λ l. length l.entries) self.same_labels in
    on_ok_weaker c.put_pairs.result
    (λ finds. finds_all (IsPairOf c.args.link.now.above c.ids.result.now c.ids-2.result.now) (IsPairBelow (functions_in self) (labels_in self)) c.args.pairs.now.keys c.put_pairs.new.pairs.keys finds c.requires.pairs
    (pairs_below (functions_in self) (labels_in self) c.args.link.now.above c.ids.result.now c.ids-2.result.now c.requires.above
    (subst (λ n. All (λ x. x < n) c.ids.result.now) (sym few) (subst (All (λ x. x < length self.facts.now.labels.entries)) (sym c.ids.ensures.list) c.in_ok-held.ensures.in_range))
    (subst (λ n. All (λ x. x < n) c.ids-2.result.now) (sym few) (subst (All (λ x. x < length self.facts.now.labels.entries)) (sym c.ids-2.ensures.list) c.in_ok-wanted.ensures.in_range))))
    c.put_pairs.ensures
