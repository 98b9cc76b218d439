use Rattle.std.proofs.Common.{rules, ◌≤ℤ◌, unsigned_abs, to_z, of_z, ◌≡◌, ◌∙◌, refl, ap, subst}
use Rattle.std.specs.Int.{w128}
use Rattle.std.specs.Prelude.{pos}
use Rattle.lk_typed.specs.Elaborated.{form_of}
use Rattle.lk_typed.specs.declared.constant.Constant.TheVariants.{Known}
use Rattle.lk_typed.specs.declared.expression.Callee.TheOpen.{TypedForm-F}
use Rattle.lk_typed.specs.declared.expression.TypedForm.TheVariants as form
use Rattle.lk_elaborator.specs.Standing.{MakesOwn}
use Rattle.lk_elab_expr.proofs.FormsAt.{made_of}
use Rattle.lk_elab_expr.proofs.Named.{abs_is, size_is}
use Rattle.lk_elab_expr.proofs.sizes.size.Goals as goal

pub returns-in-Ok : goal.returns-in-Ok
returns-in-Ok c = λ p same true_of of_size tables folded t makes.
    let has = c.in_ok-count.ensures p same true_of in
    let n = c.in-Ok.count in
    let k = c.in-Known.count in
    let exact : to_z w128 (of_z w128 k) ≡ k = search rules in
    let least = subst (λ z. pos 0 ≤ℤ z) exact c.in-Ok.ensures.0.0 in
    let count = abs_is k n least (c.in-Ok.ensures.1 ∙ ap unsigned_abs exact) in
    let counts : has.typing.constant ≡ Known (pos n) = has.is ∙ c.in-Known.is ∙ ap Known count in
    size_is tables folded p has.typing n t has.found counts (subst (λ form. MakesOwn tables p form t) (made_of (form.Size n) (TypedForm-F.Size n) (form.rolls-Size n)) makes) (form_of p) refl of_size
