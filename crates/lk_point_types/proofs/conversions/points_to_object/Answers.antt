use Rattle.std.proofs.lemmas.Option.{none-some}
use Rattle.lk_point_types.proofs.Alike.{object_too}
use Rattle.lk_point_types.proofs.Found.{found_alike, never}
use Rattle.lk_point_types.proofs.conversions.points_to_object.Goals as goal

pub returns-in-Some : goal.returns-in-Some
returns-in-Some c =
    let program = c.args.points.now in
    let exact = rw c.types.ensures at c.is_object.ensures in (
      (λ is. (c.in-Some.t, c.in-Some.ensures.same, exact.0 is)),
      (λ h. exact.1 (object_too program.types c.in-Some.t h.0 (found_alike program c.args.a c.in-Some.t h.0 c.in-Some.ensures.only h.1) h.2)),
    )

pub returns-in-None : goal.returns-in-None
returns-in-None c = never (λ h. none-some h.1.0 (c.in-None.ensures.only h.1.0 h.1.1))
