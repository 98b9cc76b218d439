use Rattle.std.proofs.Common.{◌≡◌, ◌∙◌, true, Some, sym, subst, ap}
use Rattle.lk_facts.specs.Facts.{basis_of}
use Rattle.lk_facts.specs.Labels.{LabelTable, target_at}
use Rattle.lk_facts.specs.Program.{live_at, effect_at}
use Rattle.lk_facts.specs.declared.program.Program.{Program}
use Rattle.lk_rise.proofs.PointLemmas.{accessed_one}
use Rattle.lk_rise.proofs.accesses.accessed.Goals as goal

pub returns-in-Some-clause-value : goal.returns-in-Some-clause-value
returns-in-Some-clause-value c =
    let facts = c.args.facts.now in
    let p = c.args.point in
    accessed_one (basis_of facts) p c.effect.result c.in-Some.operand c.target.result c.requires
    (subst (λ (q : Program). live_at q p ≡ true) c.points.ensures.value (sym c.live.ensures ∙ c.if-not-live.false))
    (subst (λ (q : Program). effect_at q p ≡ Some c.effect.result) c.points-2.ensures.value c.effect.ensures.value)
    (sym c.in-Some.ensures) (c.target.ensures.value ∙ ap (λ (table : LabelTable). target_at table c.in-Some.operand) c.labels.ensures.value)
