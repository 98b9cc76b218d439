use Rattle.std.proofs.Common.{◌≡◌, ◌<◌, ◌↔◌, ◌∙◌, true, length, sym, ap, subst}
use Rattle.lk_facts.specs.Analysis.{held_table}
use Rattle.lk_facts.specs.Facts.{basis_of}
use Rattle.lk_facts.specs.Items.{HasLock}
use Rattle.lk_facts.specs.LockSets.{at_of}
use Rattle.lk_facts.specs.Origins.{IsSetBelow}
use Rattle.lk_rise.specs.Correlations.{locks_of}
use Rattle.lk_rise.specs.PointItems.{PointTable}
use Rattle.lk_rise.proofs.point_items.PointItems.locks.Goals as goal
use Rattle.lk_sets.specs.Ids.{has_id}

pub at-requires : goal.at-requires
at-requires c =
    let within = subst (λ (t : PointTable). c.args.item.now.point < length t.facts.program.points) (sym c.self.view_is) c.requires.point in
    subst (λ n. c.args.item.now.point < n) (sym c.self.invariant.held_points) within

pub returns-in_ok-set-in-OwnAccess-clause-members : goal.returns-in_ok-set-in-OwnAccess-clause-members
returns-in_ok-set-in-OwnAccess-clause-members c = λ x.
    let self = c.args.self.now in
    let item = c.args.item.now in
    let is : c.in_ok-set-in-OwnAccess.set ≡ at_of self.held item.point = c.in_ok-set-in-OwnAccess.ensures ∙ c.at.ensures.value ∙ ap (λ (t : PointTable). at_of t.held item.point) c.self.view_is in
    let same = ap (λ ids. has_id ids x) is in
    subst (λ s. (has_id c.in_ok-set-in-OwnAccess.set x ≡ true) ↔ HasLock (basis_of self.facts) (held_table self.held) (locks_of self.entries) item.point s item.child item.access x) (sym c.in-OwnAccess.is)
    ((λ there. sym same ∙ there), (λ there. same ∙ there))

pub returns-in_ok-set-in-OwnAccess-clause-in_range : goal.returns-in_ok-set-in-OwnAccess-clause-in_range
returns-in_ok-set-in-OwnAccess-clause-in_range c =
    subst (λ (t : PointTable). IsSetBelow (length t.facts.labels.entries) c.in_ok-set-in-OwnAccess.set) c.self.view_is
    (subst (IsSetBelow (length c.self.inside.below.facts.now.labels.entries)) (sym c.in_ok-set-in-OwnAccess.ensures)
    (subst (λ n. IsSetBelow n c.at.result.now) c.self.invariant.held_labels c.at.ensures.in_range))

pub returns-in_ok-set-in-ItemBelow-clause-members : goal.returns-in_ok-set-in-ItemBelow-clause-members
returns-in_ok-set-in-ItemBelow-clause-members c = λ x.
    let self = c.args.self.now in
    let item = c.args.item.now in
    subst (λ s. (has_id c.in_ok-set-in-ItemBelow.set x ≡ true) ↔ HasLock (basis_of self.facts) (held_table self.held) (locks_of self.entries) item.point s item.child item.access x) (sym c.in-ItemBelow.is)
    (c.in_ok-set-in-ItemBelow.ensures.members x)
