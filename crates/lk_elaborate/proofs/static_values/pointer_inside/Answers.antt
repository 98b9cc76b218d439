use Rattle.std.proofs.Common.{ap, subst}
use Rattle.lk_typed.specs.StaticInits.{IsPointerTo}
use Rattle.lk_typed.specs.StaticInits.IsPointerTo.{object, text}
use Rattle.lk_typed.specs.Typing.{Inside}
use Rattle.lk_typed.specs.declared.initialiser.StaticValue.TheVariants as begins
use Rattle.lk_elab_init.specs.Reaching.{anchor_in, position_in}
use Rattle.lk_elaborate.proofs.static_values.pointer_inside.Goals as goal

pub returns-in_ok-entity-in-Object : goal.returns-in_ok-entity-in-Object
returns-in_ok-entity-in-Object c = λ tables leads.
    let entity = c.in_ok-entity-in-Object.entity in
    subst (λ r. IsPointerTo tables (Inside (position_in c.args.place)) (begins.Address entity r.steps r.is_past)) c.in_ok-steps.ensures
    (object (ap anchor_in c.in-Object.is) (leads.entities c.in-Object.ordinal entity c.in_ok-entity-in-Object.ensures))

pub returns-in-Text : goal.returns-in-Text
returns-in-Text c = λ tables leads.
    subst (λ r. IsPointerTo tables (Inside (position_in c.args.place)) (begins.Text c.in-Text.ordinal r.steps r.is_past)) c.in_ok-steps.ensures (text (ap anchor_in c.in-Text.is))
