use Rattle.std.proofs.Common.{◌∙◌, sym, ap, subst}
use Rattle.std.specs.Prelude.{IfSome}
use Rattle.std.specs.Option.{option_copied, option_map}
use Rattle.lk_typed.specs.Declarations.{old_type}
use Rattle.lk_typed.specs.Names.{IsKnownName, declared_in}
use Rattle.lk_check_unit.proofs.entities.type_before.Goals as goal

pub returns-in-Some-clause-value : goal.returns-in-Some-clause-value
returns-in-Some-clause-value c = λ table rest.
    c.linked_type.ensures.value table ∙ ap old_type (ap (λ o. option_map (declared_in table) (option_copied o)) (sym c.in-Some.is) ∙ c.look_up.ensures.env table rest)

pub returns-in-Some-clause-known : goal.returns-in-Some-clause-known
returns-in-Some-clause-known c = λ table known.
    c.linked_type.ensures.known table (subst (λ o. IfSome (option_copied o) (IsKnownName table)) c.in-Some.is (c.look_up.ensures.known table known))

pub returns-in-None-clause-value : goal.returns-in-None-clause-value
returns-in-None-clause-value c = λ table rest. ap old_type (ap (λ o. option_map (declared_in table) (option_copied o)) (sym c.in-None.is) ∙ c.look_up.ensures.env table rest)
