use Rattle.std.proofs.Common.{◌≡◌, ◌∙◌, sym, ap, subst}
use Rattle.std.specs.Prelude.{◌&&◌, option_map}
use Rattle.lk_typed.specs.Meaning.{meaning, meaning_of}
use Rattle.lk_typed.specs.Operators.{is_scalar}
use Rattle.lk_elaborator.specs.Converting.{valued_as}
use Rattle.lk_elaborator.specs.Elements.{element_type}
use Rattle.lk_elaborator.specs.Standing.{IsValuedBy}
use Rattle.lk_elaborator.proofs.Numbers.{means_led}
use Rattle.lk_elaborator.proofs.Valued.{value_of_array, value_without_elements}
use Rattle.lk_elaborator.proofs.values.valued_at.Goals as goal

pub returns-in_ok-pointer-in-Some-clause-value : goal.returns-in_ok-pointer-in-Some-clause-value
returns-in_ok-pointer-in-Some-clause-value c = λ p same true_of tables leads folded a t typed is.
    let old = c.args.walk.now.types in
    let has = c.in_ok-typing.ensures.typing p same true_of in
    let by : option_map (meaning old) c.element_of.result ≡ element_type (meaning_of old c.in_ok-typing.typing.ty) = rw (sym c.table.ensures.value) c.element_of.ensures.value in
    let elements = ap element_type (sym has.is.type) ∙ sym by ∙ ap (option_map (meaning old)) c.in-Some.is in
    let means = means_led (record c.args.walk.now { types = c.pointer.new.self }) tables c.in_ok-pointer-in-Some.ensures.ready leads c.in_ok-pointer-in-Some.field-0 _ c.in_ok-pointer-in-Some.ensures.known c.in_ok-pointer-in-Some.ensures.means in
    value_of_array tables folded p has.typing _ _ has.found elements means a t typed is

pub returns-in-None-clause-value : goal.returns-in-None-clause-value
returns-in-None-clause-value c = λ p same true_of tables leads folded a t typed is.
    let old = c.args.walk.now.types in
    let has = c.in_ok-typing.ensures.typing p same true_of in
    let by : option_map (meaning old) c.element_of.result ≡ element_type (meaning_of old c.in_ok-typing.typing.ty) = rw (sym c.table.ensures.value) c.element_of.ensures.value in
    let none = ap element_type (sym has.is.type) ∙ sym by ∙ ap (option_map (meaning old)) c.in-None.is in
    let whole : c.scalar_valued.result ≡ valued_as (c.in_ok-typing.typing.is_place && is_scalar (meaning_of old c.in_ok-typing.typing.ty)) = rw (sym c.table-in-None.ensures.value) c.scalar_valued.ensures in
    let valued = whole ∙ ap (λ ty. valued_as (c.in_ok-typing.typing.is_place && is_scalar ty)) has.is.type in
    value_without_elements tables folded p old c.in_ok-typing.typing has none a t typed (subst (λ valued. IsValuedBy valued a t) valued is)
