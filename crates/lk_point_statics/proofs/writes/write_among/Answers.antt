use Rattle.std.proofs.Common.{◌∙◌, arith, inl, inr, subst, sym}
use Rattle.std.proofs.lemmas.Bool.{cases_eq, false≢true}
use Rattle.lk_facts.proofs.Sets.{All-got}
use Rattle.lk_point_statics.specs.Writing.{BeginsAt, IsStaticWrite}
use Rattle.lk_point_statics.proofs.Beginning.{written_by}
use Rattle.lk_point_statics.proofs.writes.write_among.Goals as goal

pub loop-place-init : goal.loop-place-init
loop-place-init c = λ i low less begins. omega (arith, low, less)

pub loop-place-preserved : goal.loop-place-preserved
loop-place-preserved c = λ i low less begins.
    elim (cases_eq i c.loop-place.place) [
      | inl same ↦
          false≢true (sym c.if-begins_at.false ∙ c.begins_at.ensures.1 (subst (BeginsAt c.args.points.now c.args.initial.now c.args.writes.now) same begins))
      | inr other ↦ c.loop-place.invariant i low (omega (arith, less, other)) begins
    ]

pub returns-then-begins_at-clause-begun : goal.returns-then-begins_at-clause-begun
returns-then-begins_at-clause-begun c =
    let program = c.args.points.now in
    let h = c.begins_at.ensures.0 c.if-begins_at.true in
    written_by program h.0 c.args.initial.now (All-got (IsStaticWrite program) c.args.writes.now c.loop-place.place h.0 c.requires.writes.each h.1) h.2

pub returns-clause-begun : goal.returns-clause-begun
returns-clause-begun c = λ i low less begins. c.loop-place.invariant i low (omega (arith, less, c.loop-place-test.false)) begins
