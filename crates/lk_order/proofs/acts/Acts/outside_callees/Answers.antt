use Rattle.std.proofs.Common.{◌≡◌, ◌<◌, ◌↔◌, ◌⊎◌, [], true, false, All, length, ap, subst, sym, ◌∙◌, arith}
use Rattle.std.proofs.lemmas.List.{get_or_read, take_all}
use Rattle.lk_facts.specs.Labels.{LabelTable}
use Rattle.lk_links.specs.declared.link.Link.{Link}
use Rattle.lk_links.specs.Links.{AreLinksAt}
use Rattle.lk_held.specs.Acts.{OneRuns}
use Rattle.lk_held.proofs.ActLemmas.{joined_more}
use Rattle.lk_order.specs.Acts.{basis_in}
use Rattle.lk_order.specs.Giving.{Has, IsOutside}
use Rattle.lk_order.proofs.GivingLemmas.{outside_by}
use Rattle.lk_sets.specs.Ids.{has_id}
use Rattle.lk_order.proofs.acts.Acts.outside_callees.Goals as goal

pub number-requires : goal.number-requires
number-requires c =
    let basis = basis_in c.args.self.now in
    let are : AreLinksAt basis c.args.point c.at-link-items.result.now = subst (AreLinksAt basis c.args.point) (sym c.at-link-items.ensures) (c.requires.linked.each c.args.point c.requires.point) in
    subst (λ (l : Link). l.below < length basis.program.functions) (sym c.link-item.is) (are.each c.loop-link.link-index c.link-item.result c.loop-link-test.true).below

pub join_outside-requires-clause-set : goal.join_outside-requires-clause-set
join_outside-requires-clause-set c =
    let self = c.args.self.now in
    let few : length self.labels.now.entries ≡ length self.facts.now.labels.entries = ap (λ l. length l.entries) self.same_labels in
    let within : c.number.result < length c.args.sets.now = omega (arith, c.number.ensures.in_range, c.requires.sets.all) in
    let below = (c.requires.sets.below.each c.number.result [] within).below in
    subst (λ n. All (λ x. x < n) c.index-sets-number.result) few
    (subst (All (λ x. x < length self.labels.now.entries)) (sym (get_or_read c.args.sets.now c.number.result c.index-sets-number.result within c.index-sets-number.is [])) below)

pub loop-link-preserved : goal.loop-link-preserved
loop-link-preserved c =
    let self = c.args.self.now in
    let flow = (basis_in self).flow in
    let has = Has self.points.now c.args.by c.args.sets.now in
    let within : c.number.result < length c.args.sets.now = omega (arith, c.number.ensures.in_range, c.requires.sets.all) in
    let set = get_or_read c.args.sets.now c.number.result c.index-sets-number.result within c.index-sets-number.is [] in
    record {
      members = λ x. joined_more (IsOutside flow has x) c.at-link-items.result.now c.loop-link.link-index c.link-item.result (has_id c.loop-link.all x ≡ true) (has_id c.join_outside.new.all x ≡ true) c.loop-link-test.true
          (subst (λ (l : Link). (has_id c.join_outside.new.all x ≡ true) ↔ ((has_id c.loop-link.all x ≡ true) ⊎ ((l.starts ≡ false) × IsOutside flow has x l))) c.link-item.is
          (outside_by flow c.index-sets-number.result has c.link-item.result x (has_id c.loop-link.all x ≡ true) (has_id c.join_outside.new.all x ≡ true)
          (λ y. subst (λ s. (has_id s y ≡ true) ↔ has c.link-item.result.below y) (sym set) (c.number.ensures.value c.args.sets.now y))
          (c.in_ok-join_outside.ensures.members x)))
          (c.loop-link.invariant.members x);
      below = subst (λ (labels : LabelTable). All (λ x. x < length labels.entries) c.join_outside.new.all) (sym self.same_labels) c.in_ok-join_outside.ensures.in_range;
    }

pub returns-clause-members : goal.returns-clause-members
returns-clause-members c = λ x.
    subst (λ links. (has_id c.loop-link.all x ≡ true) ↔ OneRuns links (IsOutside (basis_in c.args.self.now).flow (Has c.args.self.now.points.now c.args.by c.args.sets.now) x)) (take_all c.loop-link.link-index c.at-link-items.result.now c.loop-link-test.false ∙ c.at-link-items.ensures)
    (c.loop-link.invariant.members x)
