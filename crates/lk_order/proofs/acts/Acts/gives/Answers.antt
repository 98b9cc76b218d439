use Rattle.std.proofs.Common.{◌≡◌, ◌<◌, [], ◌∷◌, length, ap, subst, sym, ◌∙◌}
use Rattle.std.proofs.lemmas.Result.{IfOk-weaker}
use Rattle.lk_links.proofs.SetLemmas.{All-from_has_id, has_id-one}
use Rattle.lk_links.specs.Links.{links_at}
use Rattle.lk_order.specs.Acts.{basis_in}
use Rattle.lk_order.specs.Giving.{Has}
use Rattle.lk_order.proofs.DoingLemmas.{locks_no_run}
use Rattle.lk_order.proofs.GivingLemmas.{gives_one, gives_outside}
use Rattle.lk_sets.specs.Ids.{has_id}
use Rattle.lk_order.proofs.acts.Acts.gives.Goals as goal

pub returns-in_ok-set-in-Some-clause-members : goal.returns-in_ok-set-in-Some-clause-members
returns-in_ok-set-in-Some-clause-members c = λ x.
    let basis = basis_in c.args.self.now in
    let is : has_id c.in_ok-set-in-Some.set x ≡ has_id (c.in-Some.mutex ∷ []) x = c.in_ok-set-in-Some.ensures.members x ∙ ap (λ m. has_id (m ∷ []) x) c.mutex.view_is in
    let one = gives_one basis (Has basis.program c.args.by c.args.sets.now) c.args.point c.in-Some.mutex (λ f g way runs. locks_no_run basis c.args.point c.in-Some.ensures.value.holds.1 runs) c.in-Some.ensures.value x in
    (λ there. one.0 (sym is ∙ there), λ gives. is ∙ one.1 gives)

pub returns-in_ok-set-in-Some-clause-in_range : goal.returns-in_ok-set-in-Some-clause-in_range
returns-in_ok-set-in-Some-clause-in_range c =
    let few = length c.args.self.now.labels.now.entries in
    All-from_has_id (λ x. x < few) c.in_ok-set-in-Some.set (λ x there.
    let is : has_id c.in_ok-set-in-Some.set x ≡ has_id (c.in-Some.mutex ∷ []) x = c.in_ok-set-in-Some.ensures.members x ∙ ap (λ m. has_id (m ∷ []) x) c.mutex.view_is in
    subst (λ y. y < few) (sym ((has_id-one c.in-Some.mutex x).0 (sym is ∙ there))) c.in-Some.ensures.in_range)

pub returns-in-None-clause-members : goal.returns-in-None-clause-members
returns-in-None-clause-members c =
    let basis = basis_in c.args.self.now in
    IfOk-weaker c.outside_callees.result _ _ (λ ids are x.
    let outside = gives_outside basis (Has basis.program c.args.by c.args.sets.now) c.args.point (links_at c.args.self.now.links.now c.args.point) (c.requires.linked.each c.args.point c.requires.point) c.in-None.ensures.value x in
    (λ there. outside.0 ((are x).0 there), λ gives. (are x).1 (outside.1 gives)))
    c.outside_callees.ensures.members
