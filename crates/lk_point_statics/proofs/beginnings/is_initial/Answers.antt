use Rattle.std.proofs.Common.{subst, sym}
use Rattle.std.proofs.lemmas.Bool.{false≢true}
use Rattle.std.proofs.lemmas.Option.{none-some, same_Some}
use Rattle.lk_facts.specs.Lowered.{MayBegin}
use Rattle.lk_point_statics.proofs.beginnings.is_initial.Goals as goal

pub returns-in-Some : goal.returns-in-Some
returns-in-Some c =
    let program = c.args.points.now in
    let initial = c.args.initial.now in
    let part = rw c.list.ensures at c.in-Some.ensures.part in
    let only = rw c.list.ensures at c.in-Some.ensures.only in (
      (λ may. (c.in-Some.t, part, c.may_begin.ensures.0 may)),
      (λ h. c.may_begin.ensures.1 (subst (λ t. MayBegin program t initial.value) (sym (same_Some c.in-Some.t h.0 (only h.0 h.1))) h.2)),
    )

pub returns-in-None : goal.returns-in-None
returns-in-None c =
    let only = rw c.list.ensures at c.in-None.ensures.only in
    ((λ no. absurd (false≢true no)), (λ h. absurd (none-some h.0 (only h.0 h.1))))
