use Rattle.std.proofs.Common.{[], ◌∷◌, ap, subst, sym, ◌∙◌}
use Rattle.lk_held.specs.Holding.{AreBrought}
use Rattle.lk_links.specs.Links.{links_at}
use Rattle.lk_order.specs.Acts.{basis_in}
use Rattle.lk_order.specs.Dropping.{AreLetGo}
use Rattle.lk_order.specs.Left.{is_left}
use Rattle.lk_order.proofs.DoingLemmas.{lets_go_no_run}
use Rattle.lk_order.proofs.DroppingLemmas.{let_go_one, let_go_same, let_go_below, let_go_none}
use Rattle.lk_sets.specs.Ids.{has_id}
use Rattle.lk_order.proofs.acts.Acts.let_go_at.Goals as goal

pub returns-in-Some : goal.returns-in-Some
returns-in-Some c =
    let basis = basis_in c.args.self.now in
    let at = is_left c.args.states.now in
    let_go_same basis at c.args.point c.in_ok-set.set (c.in-Some.mutex ∷ []) (λ x. c.in_ok-set.ensures.members x ∙ ap (λ m. has_id (m ∷ []) x) c.mutex.view_is)
    (let_go_one basis at c.args.point c.in-Some.mutex (λ f g way runs. lets_go_no_run basis c.args.point c.in-Some.ensures.value.holds.1 runs) c.in-Some.ensures.value)

pub returns-in-Some-2 : goal.returns-in-Some-2
returns-in-Some-2 c =
    let basis = basis_in c.args.self.now in
    let at = is_left c.args.states.now in
    let links = links_at c.args.self.now.links.now c.args.point in
    let_go_below basis at c.args.point links (c.requires.linked.each c.args.point c.requires.point) c.in_default.ensures.value c.in-Some-2.ids (subst (AreBrought basis at links) c.in-Some-2.is c.in_ok-ids.ensures)

pub returns-in-None : goal.returns-in-None
returns-in-None c =
    let basis = basis_in c.args.self.now in
    let at = is_left c.args.states.now in
    let links = links_at c.args.self.now.links.now c.args.point in
    subst (AreLetGo basis at c.args.point) (sym c.empty.ensures)
    (let_go_none basis at c.args.point links (c.requires.linked.each c.args.point c.requires.point) c.in_default.ensures.value (subst (AreBrought basis at links) c.in-None.is c.in_ok-ids.ensures))
