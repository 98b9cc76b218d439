use Rattle.std.proofs.Common.{◌≡◌, ◌<◌, ◌+◌, ◌∙◌, ℕ, [], length, arith, inl, inr, ap, subst}
use Rattle.std.proofs.lemmas.Bool.{cases_eq}
use Rattle.lk_facts.specs.Facts.{FactTable, basis_of}
use Rattle.lk_facts.specs.InRange.{IsInRange}
use Rattle.lk_facts.specs.Racing.{Setting}
use Rattle.lk_facts.specs.declared.program.Program.{Program}
use Rattle.lk_rise.specs.Correlations.{has_of}
use Rattle.lk_conflict.specs.Bases.{IsInConflict}
use Rattle.lk_conflict.specs.Facts.{setting_of}
use Rattle.lk_rise.specs.declared.point_items.ItemAt.{ItemAt}
use Rattle.lk_conflict.proofs.BasisLemmas.{adds_as, adds_more}
use Rattle.lk_rise.proofs.PointLemmas.{function_within, item_function, item_live}
use Rattle.lk_conflict.proofs.racing.begun.Goals as goal

pub loop-function-preserved : goal.loop-function-preserved
loop-function-preserved c =
    let facts = c.args.items.now.facts in
    let setting : Setting = setting_of c.args.after.now c.args.items.now.entries c.args.items.now.held in
    let Conflict : ℕ → ℕ → ItemAt → Type 0 = IsInConflict facts setting in
    let n : ℕ = c.loop-function.function in
    adds_more facts setting
    (λ f o i. (f < n) × Conflict f o i) (λ f o i. (f ≡ n) × Conflict f o i) (λ f o i. (f < n + 1) × Conflict f o i)
    [] c.loop-function.based.items c.push_conflicts.new.based.items c.loop-function.invariant c.in_ok-push_conflicts.ensures
    (λ f o i holds.
    elim (cases_eq f n) [
      | inl same ↦ inr (same, holds.1)
      | inr other ↦ inl (omega (arith, holds.0, other), holds.1)
    ])
    (λ f o i holds. (omega (arith, holds.0), holds.1))
    (λ f o i holds. (omega (arith, holds.0), holds.1))

pub returns : goal.returns
returns c =
    let facts = c.args.items.now.facts in
    let setting : Setting = setting_of c.args.after.now c.args.items.now.entries c.args.items.now.held in
    let Conflict : ℕ → ℕ → ItemAt → Type 0 = IsInConflict facts setting in
    let n : ℕ = c.loop-function.function in
    let functions : c.functions-function-end.result ≡ length facts.program.functions = c.functions-function-end.ensures ∙ ap (λ (q : Program). length q.functions) (c.points-2.ensures.value ∙ ap (λ (t : FactTable). t.program) c.facts-2.ensures) in
    let ranged : IsInRange facts.program = subst IsInRange (c.points.ensures.value ∙ ap (λ (t : FactTable). t.program) c.facts.ensures) c.count.ensures.in_range in
    adds_as facts setting
    (λ f o i. (f < n) × Conflict f o i) Conflict [] c.loop-function.based.items c.loop-function.invariant
    (λ f o i holds. holds.1)
    (λ f o i holds.
    let live = item_live (basis_of facts) (has_of c.args.items.now.entries) i.point f i.subject i.access i.source i.child holds.here.item in
    let of = item_function (basis_of facts) (has_of c.args.items.now.entries) i.point f i.subject i.access i.source i.child holds.here.item in
    let within = function_within facts.program i.point f ranged live of in
    (omega (arith, within, functions, c.loop-function-test.false), holds))
