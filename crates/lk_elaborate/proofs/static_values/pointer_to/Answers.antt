use Rattle.std.proofs.Common.{sym, ap, subst}
use Rattle.lk_typed.specs.StaticInits.{IsPointerTo}
use Rattle.lk_typed.specs.StaticInits.IsPointerTo.{null, function}
use Rattle.lk_typed.specs.declared.initialiser.StaticValue.TheVariants as begins
use Rattle.lk_elab_init.specs.Reaching.{address_in}
use Rattle.lk_elaborate.proofs.static_values.pointer_to.Goals as goal

pub returns-in-Null : goal.returns-in-Null
returns-in-Null c = λ tables leads. subst (λ a. IsPointerTo tables a begins.Null) (sym (ap address_in c.in-Null.is)) null

pub returns-in_ok-entity-in-Function : goal.returns-in_ok-entity-in-Function
returns-in_ok-entity-in-Function c = λ tables leads.
    let entity = c.in_ok-entity-in-Function.entity in
    subst (λ a. IsPointerTo tables a (begins.Function entity)) (sym (ap address_in c.in-Function.is)) (function (leads.entities c.in-Function.ordinal entity c.in_ok-entity-in-Function.ensures))
