use Rattle.std.proofs.Common.{subst, sym}
use Rattle.std.proofs.lemmas.Option.{none-some, same_Some}
use Rattle.lk_facts.specs.Typed.{PointsTo}
use Rattle.lk_point_types.proofs.Found.{never}
use Rattle.lk_point_types.proofs.operators.is_element.Goals as goal

pub returns-then-gives_number : goal.returns-then-gives_number
returns-then-gives_number c = (
  (λ there. (c.in-Some.element, c.in-Some.ensures.element.0, c.in-Some.ensures.element.1, c.gives_number.ensures.0 c.if-gives_number.true, c.points_to.ensures.0 there)),
  (λ h. c.points_to.ensures.1 (subst (PointsTo c.args.points.now c.args.p) (sym (same_Some c.in-Some.element h.0 (c.in-Some.ensures.only h.0 h.1 h.2))) h.4)),
)

pub returns-in-None : goal.returns-in-None
returns-in-None c = never (λ h. none-some h.0 (c.in-None.ensures.only h.0 h.1 h.2))
