use Rattle.std.proofs.Common.{◌≡◌, ◌<◌, ◌∙◌, ◌++◌, ℕ, List, Contains, Some, length, get_or, sym, ap, subst, inl, inr, arith}
use Rattle.std.proofs.lemmas.List.{get_or_default, take_all}
use Rattle.std.proofs.lemmas.List.Elements.{All-contains_itself, All-weaker, Contains-get_or}
use Rattle.lk_facts.specs.Facts.{basis_of}
use Rattle.lk_facts.specs.Labels.{AreLabelsInRange}
use Rattle.lk_facts.specs.Origins.{OriginTable, AreOriginsInRange}
use Rattle.lk_facts.specs.Program.{function_at}
use Rattle.lk_rise.specs.Correlations.{has_of}
use Rattle.lk_rise.specs.Groups.{group_at}
use Rattle.lk_rise.specs.PointItems.{IsItemInRange, IsItemOf, PointTable}
use Rattle.lk_facts.specs.InRange.{IsInRange}
use Rattle.lk_rise.specs.declared.point_items.ItemAt.{ItemAt}
use Rattle.lk_rise.proofs.ListLemmas.{none_there, there_more, there_or}
use Rattle.lk_rise.proofs.PointLemmas.{item_function, item_within, point_at, point_within}
use Rattle.lk_rise.proofs.point_items.PointItems.items_in.Goals as goal
use Rattle.lk_sets.specs.Rows.{IsSquare}

pub at-point-items-requires : goal.at-point-items-requires
at-point-items-requires c =
    let within = subst (λ (t : PointTable). c.args.function < length t.facts.program.functions) (sym c.self.view_is) c.requires in
    omega (arith, within, c.self.invariant.point_count)

pub loop-point-init : goal.loop-point-init
loop-point-init c = λ i. (
  λ there. absurd (none_there i (subst (λ xs. Contains xs i) c.new-found.ensures.items there)),
  λ both. absurd (none_there i.point both.0),
)

-- the point of a turn, with its function
abbrev point_of : (list : List ℕ) (k : ℕ) → ℕ
point_of list k = get_or list k 0

pub overflow_cast-point : goal.overflow_cast-point
overflow_cast-point c =
    let list = c.at-point-items.result.now in
    let k = c.loop-point.point-index in
    let p = point_of list k in
    let program = c.self.inside.below.facts.now.program in
    let there : Contains (group_at c.self.inside.points c.args.function) p = subst (λ xs. Contains xs p) c.at-point-items.ensures (Contains-get_or list k 0 c.loop-point-test.true) in
    let within = point_within program p c.args.function ((point_at program c.self.inside.points c.args.function p c.self.invariant.points).0 there) in
    let few = (subst IsInRange c.points.ensures.value c.count.ensures.in_range).few_points in
    omega (arith, within, few)

pub items_at-requires : goal.items_at-requires
items_at-requires c =
    let list = c.at-point-items.result.now in
    let k = c.loop-point.point-index in
    let p = point_of list k in
    let program = c.self.inside.below.facts.now.program in
    let there : Contains (group_at c.self.inside.points c.args.function) p = subst (λ xs. Contains xs p) c.at-point-items.ensures (Contains-get_or list k 0 c.loop-point-test.true) in
    subst (λ (t : PointTable). p < length t.facts.program.points) c.self.view_is
    (point_within program p c.args.function ((point_at program c.self.inside.points c.args.function p c.self.invariant.points).0 there))

pub loop-point-preserved : goal.loop-point-preserved
loop-point-preserved c = λ i.
    let self = c.args.self.now in
    let list = c.at-point-items.result.now in
    let k = c.loop-point.point-index in
    let p = point_of list k in
    let program = c.self.inside.below.facts.now.program in
    let there : Contains (group_at c.self.inside.points c.args.function) p = subst (λ xs. Contains xs p) c.at-point-items.ensures (Contains-get_or list k 0 c.loop-point-test.true) in
    let of = subst (λ (t : PointTable). function_at t.facts.program p ≡ Some c.args.function) c.self.view_is ((point_at program c.self.inside.points c.args.function p c.self.invariant.points).0 there) in
    let new : c.extend_from_slice.new.self.items ≡ c.loop-point.found.items ++ c.in_ok-items.items.items = c.in_ok-extend_from_slice.ensures.items ∙ ap (λ xs. c.loop-point.found.items ++ xs) c.deref.ensures.value in
    let step = there_or (λ (j : ItemAt). (j.point ≡ p) × IsItemOf (basis_of self.facts) (has_of self.entries) c.args.function j) c.loop-point.found.items c.in_ok-items.items.items c.extend_from_slice.new.self.items new
    (c.in_ok-items.ensures c.args.function of) i in
    let more = there_more list k p i.point c.loop-point-test.true (get_or_default list k 0 p c.loop-point-test.true) in (
      λ here.
          elim (step.0 here) [
            | inl before ↦ let old = (c.loop-point.invariant i).0 before in (more.1 (inl old.0), old.1)
            | inr now ↦ (more.1 (inr now.0), now.1)
          ],
      λ both.
          step.1
          (elim (more.0 both.0) [
            | inl before ↦ inl ((c.loop-point.invariant i).1 (before, both.1))
            | inr same ↦ inr (same, both.1)
          ]),
    )

pub returns-clause-in_range : goal.returns-clause-in_range
returns-clause-in_range c =
    let self = c.args.self.now in
    let facts = c.self.inside.below.facts.now in
    let entries = c.self.inside.below.items.now in
    All-weaker (Contains c.loop-point.found.items) (IsItemInRange self.facts)
    (λ i there.
    let is = subst (λ (t : PointTable). IsItemOf (basis_of t.facts) (has_of t.entries) c.args.function i) (sym c.self.view_is) ((c.loop-point.invariant i).0 there).1 in
    subst (λ (t : PointTable). IsItemInRange t.facts i) c.self.view_is
    (item_within facts entries (subst AreLabelsInRange c.labels-2.ensures.value c.count-2.ensures.in_range) (subst AreOriginsInRange c.origins.ensures.value c.labels.ensures.in_range)
    (subst (λ (o : OriginTable). IsSquare o.all) c.origins.ensures.value c.labels.ensures.all) (subst (λ (o : OriginTable). IsSquare o.inner) c.origins.ensures.value c.labels.ensures.inner)
    c.origins.ensures.agree c.self.invariant.below.in_range c.args.function i is))
    c.loop-point.found.items (All-contains_itself c.loop-point.found.items)

pub returns-clause-members : goal.returns-clause-members
returns-clause-members c = λ i.
    let self = c.args.self.now in
    let list = c.at-point-items.result.now in
    let program = c.self.inside.below.facts.now.program in
    let all = take_all c.loop-point.point-index list c.loop-point-test.false in (
      λ there. ((c.loop-point.invariant i).0 there).1,
      λ is.
          let of = item_function (basis_of self.facts) (has_of self.entries) i.point c.args.function i.subject i.access i.source i.child is in
          let of' = subst (λ (t : PointTable). function_at t.facts.program i.point ≡ Some c.args.function) (sym c.self.view_is) of in
          let there : Contains list i.point = subst (λ xs. Contains xs i.point) (sym c.at-point-items.ensures) ((point_at program c.self.inside.points c.args.function i.point c.self.invariant.points).1 of') in
          (c.loop-point.invariant i).1 (subst (λ xs. Contains xs i.point) (sym all) there, is),
    )
