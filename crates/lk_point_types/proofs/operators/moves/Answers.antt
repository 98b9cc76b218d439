use Rattle.std.proofs.lemmas.Option.{none-some}
use Rattle.lk_point_types.proofs.Found.{never}
use Rattle.lk_point_types.proofs.operators.moves.Goals as goal

pub returns-then-gives_number : goal.returns-then-gives_number
returns-then-gives_number c = (
  (λ there. (c.in-Some.t, c.in-Some.ensures.same, c.gives_number.ensures.0 c.if-gives_number.true, c.points_to.ensures.0 there)),
  (λ h. c.points_to.ensures.1 (h.3.0, h.3.1, c.in-Some.ensures.alike h.0 h.3.0 h.1 h.3.2)),
)

pub returns-in-None : goal.returns-in-None
returns-in-None c = never (λ h. none-some h.1.0 (c.in-None.ensures.only h.1.0 h.1.1))
