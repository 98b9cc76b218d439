use Rattle.std.proofs.Common.{rules, ◌≡◌, subst, to_z, of_z}
use Rattle.std.specs.Int.{w128}
use Rattle.lk_typed.specs.declared.expression.Callee.TheOpen.{TypedForm-F}
use Rattle.lk_typed.specs.declared.expression.TypedForm.TheVariants as form
use Rattle.lk_elaborator.specs.Standing.{MakesOwn}
use Rattle.lk_elab_expr.proofs.FormsAt.{made_of}
use Rattle.lk_elab_expr.proofs.Named.{enumerator_is, function_is, object_is}
use Rattle.lk_elab_expr.proofs.names.word.Goals as goal

pub returns-in_ok-storage-in-Object : goal.returns-in_ok-storage-in-Object
returns-in_ok-storage-in-Object c = λ p same true_of tables leads folded t makes.
    let storage = c.in_ok-storage-in-Object.storage in
    let is = c.in_ok-meant.ensures p same true_of in
    object_is c.args.walk.now tables folded p t c.in_ok-meant.meant is leads _ _ c.in-Object.is storage c.in_ok-storage-in-Object.ensures
    (subst (λ form. MakesOwn tables p form t) (made_of (form.Object storage) (TypedForm-F.Object storage) (form.rolls-Object storage)) makes)

pub returns-in_ok-entity-in-Function : goal.returns-in_ok-entity-in-Function
returns-in_ok-entity-in-Function c = λ p same true_of tables leads folded t makes.
    let entity = c.in_ok-entity-in-Function.entity in
    let is = c.in_ok-meant.ensures p same true_of in
    function_is c.args.walk.now tables folded p t c.in_ok-meant.meant is leads _ c.in-Function.is entity c.in_ok-entity-in-Function.ensures
    (subst (λ form. MakesOwn tables p form t) (made_of (form.Function entity) (TypedForm-F.TypedForm::Function entity) (form.rolls-Function entity)) makes)

pub returns-in-Enumerator : goal.returns-in-Enumerator
returns-in-Enumerator c = λ p same true_of tables leads folded t makes.
    let exact : to_z w128 (of_z w128 c.in-Enumerator.value) ≡ c.in-Enumerator.value = search rules in
    let is = c.in_ok-meant.ensures p same true_of in
    enumerator_is c.args.walk.now tables folded p t c.in_ok-meant.meant is _ c.in-Enumerator.is
    (subst (λ z. MakesOwn tables p (TypedForm-F.Number z) t) exact (subst (λ form. MakesOwn tables p form t) (made_of (form.Number _) (TypedForm-F.Number _) (form.rolls-Number _)) makes))
