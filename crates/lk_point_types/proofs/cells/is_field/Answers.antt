use Rattle.std.proofs.Common.{subst, sym}
use Rattle.std.proofs.lemmas.Option.{none-some}
use Rattle.lk_facts.specs.Typed.{IsMember}
use Rattle.lk_point_types.proofs.Alike.{same_struct}
use Rattle.lk_point_types.proofs.Found.{found_alike, never}
use Rattle.lk_point_types.proofs.cells.is_field.Goals as goal

pub returns-in-Some : goal.returns-in-Some
returns-in-Some c =
    let program = c.args.points.now in (
      (λ there. let h = c.points_to_member.ensures.0 there in (c.in-Some.s, h.0, c.in-Some.ensures.same, h.1, h.2)),
      (λ h.
          let same = same_struct program.types c.in-Some.s h.0 c.args.member h.1 (found_alike program c.args.a c.in-Some.s h.0 c.in-Some.ensures.only h.2) h.3 in
          c.points_to_member.ensures.1 (h.1, subst (λ x. IsMember program.types x c.args.member h.1) (sym same) h.3, h.4)),
    )

pub returns-in-None : goal.returns-in-None
returns-in-None c = never (λ h. none-some h.2.0 (c.in-None.ensures.only h.2.0 h.2.1))
