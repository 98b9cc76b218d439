use Rattle.std.proofs.Common.{ℕ, Option, sym, subst}
use Rattle.std.specs.Option.{option_map}
use Rattle.lk_typed.specs.Meaning.{meaning}
use Rattle.lk_found.specs.Shapes.{APointer, AFunction, IsMadeBy, form_in, params_in}
use Rattle.lk_found.specs.declared.layers.Layer.{Layer}
use Rattle.lk_found.proofs.layers.made_by.Goals as goal

pub returns-in_ok-made-in-Some-clause-made : goal.returns-in_ok-made-in-Some-clause-made
returns-in_ok-made-in-Some-clause-made c = λ span same is may.
    let old = c.args.types.now in
    let new = c.pointer.new.types in
    let made = c.in_ok-made-in-Some.made in
    subst (λ (layer : Layer). IsMadeBy old new span (form_in old layer) (option_map (meaning old) c.args.left) made) (sym c.in-Pointer.is)
    (subst (λ (left : Option ℕ). IsMadeBy old new span APointer (option_map (meaning old) left) made) (sym c.in-Some.is) (c.in_ok-made-in-Some.ensures.made span same))

pub returns-in_ok-made-in-Some-left-clause-made : goal.returns-in_ok-made-in-Some-left-clause-made
returns-in_ok-made-in-Some-left-clause-made c = λ span same is may.
    let old = c.args.types.now in
    let new = c.function.new.types in
    let made = c.in_ok-made-in-Some-left.made in
    subst (λ (layer : Layer). IsMadeBy old new span (form_in old layer) (option_map (meaning old) c.args.left) made) (sym c.in-Function.is)
    (subst (λ (left : Option ℕ). IsMadeBy old new span (AFunction (params_in old c.in-Function.params) c.in-Function.dots) (option_map (meaning old) left) made) (sym c.in-Some-left.is)
    (c.in_ok-made-in-Some-left.ensures.made span same))
