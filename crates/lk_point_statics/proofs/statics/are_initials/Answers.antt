use Rattle.std.proofs.Common.{◌∙◌, ap, arith, get_or, length, refl, subst, Some}
use Rattle.std.proofs.lemmas.Bool.{false≢true}
use Rattle.std.proofs.lemmas.Option.{slice_get_within}
use Rattle.lk_facts.specs.Lowered.{IsInitial}
use Rattle.lk_point_statics.proofs.Beginning.{listed, one_more}
use Rattle.lk_point_statics.proofs.statics.are_initials.Goals as goal

pub loop-initial-preserved : goal.loop-initial-preserved
loop-initial-preserved c =
    let program = c.args.points.now in
    let k = c.loop-initial.initial-index in
    let is = c.initial-item.result in
    one_more (IsInitial program) program.initials k is
    (subst (IsInitial program) (c.initial-item.is ∙ ap (λ all. get_or all k is) c.initials-initial-items.ensures) (c.if-not-is_initial.ensures.0 refl))
    c.loop-initial.invariant

pub returns-then-not-is_initial : goal.returns-then-not-is_initial
returns-then-not-is_initial c =
    let k = c.loop-initial.initial-index in
    let is = c.initial-item.result in (
      (λ no. absurd (false≢true no)),
      (λ all. absurd (false≢true (c.if-not-is_initial.ensures.1 (all k is
          (listed c.initials-initial-items.result.now c.args.points.now.initials k is c.initials-initial-items.ensures c.loop-initial-test.true c.initial-item.is))))),
    )

pub returns : goal.returns
returns c = (
  (λ _ i initial at.
      c.loop-initial.invariant i initial
      (omega (arith, slice_get_within c.args.points.now.initials i initial at, c.loop-initial-test.false, ap length c.initials-initial-items.ensures)) at),
  (λ _. refl),
)
