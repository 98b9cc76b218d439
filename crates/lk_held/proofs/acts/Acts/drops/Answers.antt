use Rattle.std.proofs.Common.{◌≡◌, ◌<◌, [], ◌∷◌, length, ap, subst, sym, ◌∙◌}
use Rattle.std.proofs.lemmas.Result.{IfOk-weaker}
use Rattle.lk_held.specs.Acts.{basis_in}
use Rattle.lk_held.specs.Releasing.{Releases}
use Rattle.lk_held.proofs.ReleasingLemmas.{dropped_one, dropped_outside}
use Rattle.lk_links.proofs.SetLemmas.{All-from_has_id, has_id-one}
use Rattle.lk_links.specs.Links.{links_at}
use Rattle.lk_sets.specs.Ids.{has_id}
use Rattle.lk_held.proofs.acts.Acts.drops.Goals as goal

pub returns-in_ok-set-in-Some-clause-members : goal.returns-in_ok-set-in-Some-clause-members
returns-in_ok-set-in-Some-clause-members c = λ x.
    let is : has_id c.in_ok-set-in-Some.set x ≡ has_id (c.in-Some.mutex ∷ []) x = c.in_ok-set-in-Some.ensures.members x ∙ ap (λ m. has_id (m ∷ []) x) c.mutex.view_is in
    let one = dropped_one (basis_in c.args.self.now) (Releases c.args.released.now) c.args.point c.in-Some.mutex c.in-Some.ensures.value x in
    (λ there. one.0 (sym is ∙ there), λ drops. is ∙ one.1 drops)

pub returns-in_ok-set-in-Some-clause-in_range : goal.returns-in_ok-set-in-Some-clause-in_range
returns-in_ok-set-in-Some-clause-in_range c =
    let few = length c.args.self.now.labels.now.entries in
    All-from_has_id (λ x. x < few) c.in_ok-set-in-Some.set (λ x there.
    let is : has_id c.in_ok-set-in-Some.set x ≡ has_id (c.in-Some.mutex ∷ []) x = c.in_ok-set-in-Some.ensures.members x ∙ ap (λ m. has_id (m ∷ []) x) c.mutex.view_is in
    subst (λ y. y < few) (sym ((has_id-one c.in-Some.mutex x).0 (sym is ∙ there))) c.in-Some.ensures.in_range)

pub returns-in-None-clause-members : goal.returns-in-None-clause-members
returns-in-None-clause-members c =
    let basis = basis_in c.args.self.now in
    IfOk-weaker c.outside_callees.result _ _ (λ ids are x.
    let outside = dropped_outside basis (Releases c.args.released.now) c.args.point (links_at c.args.self.now.links.now c.args.point) (c.requires.linked.each c.args.point c.requires.point) c.in-None.ensures.value x in
    (λ there. outside.0 ((are x).0 there), λ drops. (are x).1 (outside.1 drops)))
    c.outside_callees.ensures.members
