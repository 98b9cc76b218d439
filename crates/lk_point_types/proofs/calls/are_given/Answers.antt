use Rattle.std.proofs.Common.{refl, arith, get_or}
use Rattle.std.proofs.lemmas.Bool.{false≢true}
use Rattle.std.proofs.lemmas.Option.{slice_get-get_or}
use Rattle.lk_facts.specs.Typed.AreGiven.{none}
use Rattle.lk_types.proofs.KeptLemmas.{read_got}
use Rattle.lk_point_types.proofs.GivenLemmas.{given_more, given_at, given_as_many}
use Rattle.lk_point_types.proofs.calls.are_given.Goals as goal

pub returns-then-args-types : goal.returns-then-args-types
returns-then-args-types c = (
  (λ no. absurd (false≢true no)),
  (λ all. absurd (c.if-args-types.true (given_as_many c.args.points.now c.args.args.now c.args.types.now all))),
)

pub loop-place-init : goal.loop-place-init
loop-place-init c = none

pub loop-place-preserved : goal.loop-place-preserved
loop-place-preserved c =
    let args = c.args.args.now in
    let types = c.args.types.now in
    let k = c.loop-place.place in
    let t = c.index-types-place.result in
    given_more c.args.points.now args types k (get_or args k 0) t (slice_get-get_or args k 0 c.loop-place-test.true)
    (read_got types k t (omega (arith, c.if-args-types.false, c.loop-place-test.true)) c.index-types-place.is) (c.if-not-gives.ensures.0 refl) c.loop-place.invariant

pub returns-then-not-gives : goal.returns-then-not-gives
returns-then-not-gives c =
    let args = c.args.args.now in
    let types = c.args.types.now in
    let k = c.loop-place.place in
    let t = c.index-types-place.result in (
      (λ no. absurd (false≢true no)),
      (λ all. absurd (false≢true (c.if-not-gives.ensures.1
          (given_at c.args.points.now args types k (get_or args k 0) t (slice_get-get_or args k 0 c.loop-place-test.true)
          (read_got types k t (omega (arith, c.if-args-types.false, c.loop-place-test.true)) c.index-types-place.is) all)))),
    )
