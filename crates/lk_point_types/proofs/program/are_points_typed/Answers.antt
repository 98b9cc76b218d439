use Rattle.std.proofs.Common.{◌<◌, length, refl, arith}
use Rattle.std.proofs.lemmas.Bool.{false≢true}
use borrow.Author.Count.{below_none, below_more}
use Rattle.lk_facts.specs.declared.action.Action.TheVariants.{Fill}
use Rattle.lk_point_types.specs.Each.{HasItsPlace, IsPointTyped}
use Rattle.lk_point_types.proofs.WholeLemmas.{acting_within}
use Rattle.lk_point_types.proofs.program.are_points_typed.Goals as goal

pub loop-p-init : goal.loop-p-init
loop-p-init c = below_none (λ p. HasItsPlace c.args.points.now p × IsPointTyped c.args.points.now p)

pub loop-p-preserved : goal.loop-p-preserved
loop-p-preserved c =
    below_more (λ p. HasItsPlace c.args.points.now p × IsPointTyped c.args.points.now p) c.loop-p.p c.loop-p.invariant (c.if-not-is_point_typed.ensures.0 refl)

pub returns-then-not-is_point_typed : goal.returns-then-not-is_point_typed
returns-then-not-is_point_typed c = (
  (λ none. absurd (false≢true none)),
  (λ all. absurd (false≢true (c.if-not-is_point_typed.ensures.1 (all c.loop-p.p)))),
)

pub returns : goal.returns
returns c =
    let here : (p : _) → p < length c.args.points.now.points → HasItsPlace c.args.points.now p × IsPointTyped c.args.points.now p =
    λ p within. c.loop-p.invariant p (omega (arith, within, c.count-p-end.ensures.value, c.loop-p-test.false)) in (
      (λ _ p. (
        (λ a place named at. (here p (acting_within c.args.points.now p (Fill a place named) at)).0 a place named at),
        (λ f action at in_. (here p (acting_within c.args.points.now p action at)).1 f action at in_),
      )),
      (λ _. refl),
    )
