use Rattle.std.proofs.Common.{rules, to_z, of_z, ◌≡◌, ◌∙◌, None, inl, inr, sym, ap, subst}
use Rattle.std.proofs.lemmas.Result.{IfOk-weaker}
use Rattle.std.specs.Int.{w128}
use Rattle.lk_arith.specs.Conversions.{convert}
use Rattle.lk_tree.specs.declared.expression.Expr.{Expr}
use Rattle.lk_typed.specs.Addresses.{value}
use Rattle.lk_typed.specs.StaticInits.{IsStaticValue}
use Rattle.lk_typed.specs.StaticInits.IsStaticValue.{number, truth}
use Rattle.lk_typed.specs.Ty.{Int}
use Rattle.lk_typed.specs.Typing.{known_value}
use Rattle.lk_typed.specs.declared.initialiser.StaticValue.TheVariants as begins
use Rattle.lk_elab_init.proofs.AddressesByForm.{true_of}
use Rattle.lk_elaborate.proofs.static_values.number.Goals as goal

pub returns-in-Known : goal.returns-in-Known
returns-in-Known c = λ tables at_end p same told.
    let is = c.in_ok-number.ensures p (ap (λ (e : Expr). e.ordinal) same) (true_of at_end c.args.walk.now p told) in
    let exact : to_z w128 (of_z w128 c.in-Known.number) ≡ c.in-Known.number = search rules in
    let whole : to_z w128 (of_z w128 c.convert.result) ≡ c.convert.result = search rules in
    subst (λ z. IsStaticValue tables p (Int c.args.kind) (begins.Number z) None) (sym (whole ∙ c.convert.ensures.exact ∙ ap (convert c.args.kind) exact)) (number is.found (ap known_value (is.is ∙ c.in-Known.is)))

pub returns-in-NotConstant : goal.returns-in-NotConstant
returns-in-NotConstant c = IfOk-weaker c.truth_for.result _ _ (λ z says tables at_end p same told.
    let is = c.in_ok-number.ensures p (ap (λ (e : Expr). e.ordinal) same) (true_of at_end c.args.walk.now p told) in
    let none : known_value (value is.typing).constant ≡ None = elim c.in-NotConstant.is [
      | inl never ↦ ap known_value (is.is ∙ never)
      | inr undefined ↦ ap known_value (is.is ∙ undefined)
    ] in
    subst (λ k. IsStaticValue tables p (Int k) (begins.Number z) None) (sym says.0) (truth is.found (says.1 at_end p same told is.typing is.found tables) none)) c.truth_for.ensures
