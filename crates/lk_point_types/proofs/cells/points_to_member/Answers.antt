use Rattle.std.proofs.Common.{subst, sym}
use Rattle.std.proofs.lemmas.Option.{none-some, same_Some}
use Rattle.lk_facts.specs.Typed.{PointsTo}
use Rattle.lk_point_types.proofs.Found.{never}
use Rattle.lk_point_types.proofs.cells.points_to_member.Goals as goal

pub returns-in-Some : goal.returns-in-Some
returns-in-Some c =
    let only = rw c.types.ensures at c.in-Some.ensures.only in (
      (λ there. (c.in-Some.t, rw c.types.ensures at c.in-Some.ensures.member, c.points_to.ensures.0 there)),
      (λ h. c.points_to.ensures.1 (subst (PointsTo c.args.points.now c.args.p) (sym (same_Some c.in-Some.t h.0 (only h.0 h.1))) h.2)),
    )

pub returns-in-None : goal.returns-in-None
returns-in-None c =
    let only = rw c.types.ensures at c.in-None.ensures.only in
    never (λ h. none-some h.0 (only h.0 h.1))
