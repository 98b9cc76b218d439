use Rattle.std.proofs.Common.{◌≡◌, ◌<◌, ◌∙◌, ℕ, false, List, Contains, Some, length, get_or, below_more, sym, subst, arith}
use Rattle.std.proofs.lemmas.List.{get_or_default}
use Rattle.std.proofs.lemmas.List.Elements.{Contains-get_or}
use Rattle.lk_facts.specs.Facts.{basis_of}
use Rattle.lk_facts.specs.InRange.{IsInRange}
use Rattle.lk_facts.specs.Program.{function_at}
use Rattle.lk_rise.specs.Correlations.{has_of}
use Rattle.lk_rise.specs.Groups.{group_at}
use Rattle.lk_rise.specs.PointItems.{IsItemOf, PointTable}
use Rattle.lk_rise.specs.declared.point_items.ItemAt.{ItemAt}
use Rattle.lk_rise.proofs.PointLemmas.{item_function, point_at, point_within}
use Rattle.lk_rise.proofs.point_items.PointItems.may_start.Goals as goal

-- the point of a turn
abbrev point_of : (list : List ℕ) (k : ℕ) → ℕ
point_of list k = get_or list k 0

pub overflow_cast-point : goal.overflow_cast-point
overflow_cast-point c =
    let list = c.at-point-items.result.now in
    let k = c.loop-point.point-index in
    let p = point_of list k in
    let program = c.self.inside.below.facts.now.program in
    let there : Contains (group_at c.self.inside.points c.args.function) p = subst (λ xs. Contains xs p) c.at-point-items.ensures (Contains-get_or list k 0 c.loop-point-test.true) in
    let within = point_within program p c.args.function ((point_at program c.self.inside.points c.args.function p c.self.invariant.points).0 there) in
    let few = (subst IsInRange c.points.ensures.value c.count.ensures.in_range).few_points in
    omega (arith, within, few)

pub may_start_at-requires : goal.may_start_at-requires
may_start_at-requires c =
    let list = c.at-point-items.result.now in
    let k = c.loop-point.point-index in
    let p = point_of list k in
    let program = c.self.inside.below.facts.now.program in
    let there : Contains (group_at c.self.inside.points c.args.function) p = subst (λ xs. Contains xs p) c.at-point-items.ensures (Contains-get_or list k 0 c.loop-point-test.true) in
    subst (λ (t : PointTable). p < length t.facts.program.points) c.self.view_is
    (point_within program p c.args.function ((point_at program c.self.inside.points c.args.function p c.self.invariant.points).0 there))

pub loop-point-preserved : goal.loop-point-preserved
loop-point-preserved c =
    let self = c.args.self.now in
    let list = c.at-point-items.result.now in
    below_more (λ j. (i : ItemAt) → i.point ≡ get_or list j 0 → IsItemOf (basis_of self.facts) (has_of self.entries) c.args.function i → i.child ≡ false) c.loop-point.point-index
    c.loop-point.invariant
    (λ i at is. c.may_start_at.ensures c.if-may_start_at.false c.args.function i at is)

pub returns : goal.returns
returns c = λ _ i is.
    let self = c.args.self.now in
    let list = c.at-point-items.result.now in
    let program = c.self.inside.below.facts.now.program in
    let of = item_function (basis_of self.facts) (has_of self.entries) i.point c.args.function i.subject i.access i.source i.child is in
    let of' = subst (λ (t : PointTable). function_at t.facts.program i.point ≡ Some c.args.function) (sym c.self.view_is) of in
    let there : Contains list i.point = subst (λ xs. Contains xs i.point) (sym c.at-point-items.ensures) ((point_at program c.self.inside.points c.args.function i.point c.self.invariant.points).1 of') in
    c.loop-point.invariant there.0 (omega (arith, there.1, c.loop-point-test.false)) i (sym (get_or_default list there.0 0 i.point there.1 ∙ there.2)) is
