use Rattle.std.proofs.Common.{◌∙◌, ap, arith, get_or, length, refl, subst}
use Rattle.std.proofs.lemmas.Bool.{false≢true}
use Rattle.std.proofs.lemmas.Option.{slice_get_within}
use Rattle.lk_point_statics.specs.Writing.{IsBegun}
use Rattle.lk_point_statics.proofs.Beginning.{listed, one_more}
use Rattle.lk_point_statics.proofs.writes.are_written.Goals as goal

pub loop-initial-preserved : goal.loop-initial-preserved
loop-initial-preserved c =
    let program = c.args.points.now in
    let k = c.loop-initial.initial-index in
    let is = c.initial-item.result in
    record {
      within = c.in-Some.ensures.within;
      written = one_more (IsBegun program) program.initials k is
          (subst (IsBegun program) (c.initial-item.is ∙ ap (λ all. get_or all k is) c.initials-initial-items.ensures) c.in-Some.ensures.begun)
          c.loop-initial.invariant.written;
    }

pub returns-in-None : goal.returns-in-None
returns-in-None c =
    let k = c.loop-initial.initial-index in
    let is = c.initial-item.result in (
      (λ no. absurd (false≢true no)),
      (λ all. absurd (c.in-None.ensures.begun (all k is
          (listed c.initials-initial-items.result.now c.args.points.now.initials k is c.initials-initial-items.ensures c.loop-initial-test.true c.initial-item.is)))),
    )

pub returns : goal.returns
returns c = (
  (λ _ i initial at.
      c.loop-initial.invariant.written i initial
      (omega (arith, slice_get_within c.args.points.now.initials i initial at, c.loop-initial-test.false, ap length c.initials-initial-items.ensures)) at),
  (λ _. refl),
)
