use Rattle.std.proofs.Common.{◌∙◌, ◌<◌, Some, ap, refl, subst}
use Rattle.std.proofs.lemmas.Bool.{eq-eqb, eqb-true, false≢true}
use Rattle.lk_facts.specs.InRange.{AllOperands, sizes_of}
use Rattle.lk_point_statics.specs.Behind.IsBehind.{converted}
use Rattle.lk_point_statics.specs.Behind.LeadsBack.{here}
use Rattle.lk_point_statics.proofs.Behind.{ends_function, further, never_so_far}
use Rattle.lk_point_statics.proofs.Giving.{function_converted, function_given, given_function, no_function}
use Rattle.lk_point_statics.proofs.addresses.gives_function.Goals as goal

pub loop-turn-init : goal.loop-turn-init
loop-turn-init c = record { within = c.requires; back = here c.args.p; exact = ((λ gives. gives), (λ gives. gives)) }

pub returns-in-Func : goal.returns-in-Func
returns-in-Func c =
    let program = c.args.points.now in
    let does = c.action-action.ensures.value ∙ ap Some c.in-Func.is in (
      (λ same. c.loop-turn.invariant.exact.0 (function_given program c.loop-turn.point c.in-Func.function c.args.f does (eqb-true c.in-Func.function c.args.f same))),
      (λ gives. eq-eqb c.in-Func.function c.args.f (given_function program c.loop-turn.point c.in-Func.function c.args.f does (c.loop-turn.invariant.exact.1 gives))),
    )

pub loop-turn-preserved : goal.loop-turn-preserved
loop-turn-preserved c =
    let program = c.args.points.now in
    let before = c.loop-turn.invariant in
    let does = c.action-action.ensures.value ∙ ap Some c.in-Convert.is in
    let both = function_converted program c.loop-turn.point c.in-Convert.a c.in-Convert.ty c.args.f does in
    record {
      within = subst (AllOperands (λ a. a < (sizes_of program).points)) c.in-Convert.is c.action-action.ensures.in_range.operands;
      back = further program c.loop-turn._turn c.args.p c.loop-turn.point c.in-Convert.a before.back (converted c.loop-turn.point c.in-Convert.a c.in-Convert.ty does);
      exact = ((λ gives. before.exact.0 (both.0 gives)), (λ gives. both.1 (before.exact.1 gives)));
    }

pub returns : goal.returns
returns c = (
  (λ no. absurd (false≢true no)),
  (λ gives.
      let program = c.args.points.now in
      let ends = ends_function program c.args.p c.args.f gives in
      absurd (never_so_far program c.count-turn-end.ensures.in_range c.loop-turn._turn c.args.p c.loop-turn.point c.requires (rw c.count-turn-end.ensures.value at c.loop-turn-test.false)
      c.loop-turn.invariant.back ends.0 ends.1)),
)

pub returns-in_default-action : goal.returns-in_default-action
returns-in_default-action c = (
  (λ no. absurd (false≢true no)),
  (λ gives.
      absurd (no_function c.args.points.now c.loop-turn.point c.args.f c.action-action.result.now c.action-action.ensures.value c.in_default.not-Func c.in_default-action.not-Convert
      (c.loop-turn.invariant.exact.1 gives))),
)
