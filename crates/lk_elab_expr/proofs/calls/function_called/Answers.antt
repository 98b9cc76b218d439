use Rattle.std.proofs.Common.{◌∙◌, refl, sym, subst}
use Rattle.std.specs.Prelude.{if◌then◌else◌}
use Rattle.lk_typed.specs.Elaborated.{AnExternFunction, AFunctionHere}
use Rattle.lk_elab_expr.specs.Calling.{IsCalled}
use Rattle.lk_elab_expr.specs.declared.calls.Called.TheVariants as by
use Rattle.lk_elab_expr.proofs.calls.function_called.Goals as goal

pub returns-then-is_extern_name : goal.returns-then-is_extern_name
returns-then-is_extern_name c = λ p is.
    let n = c.args.ordinal in
    let e = c.in_ok-entity.entity in
    subst (λ b. IsCalled c.args.walk.now (by.Extern e) (if b then AnExternFunction n else AFunctionHere n)) (sym c.if-is_extern_name.true ∙ c.is_extern_name.ensures p is) (n, c.in_ok-entity.ensures, refl)

pub returns-else-is_extern_name : goal.returns-else-is_extern_name
returns-else-is_extern_name c = λ p is.
    let n = c.args.ordinal in
    let e = c.in_ok-entity.entity in
    subst (λ b. IsCalled c.args.walk.now (by.Program e) (if b then AnExternFunction n else AFunctionHere n)) (sym c.if-is_extern_name.false ∙ c.is_extern_name.ensures p is) (n, c.in_ok-entity.ensures, refl)
