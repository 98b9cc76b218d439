use Rattle.std.proofs.Common.{rules, ◌≡◌, ◌∙◌, sym, ap, subst, to_z, of_z}
use Rattle.std.proofs.lemmas.Result.{IfOk-weaker}
use Rattle.std.specs.Int.{w128}
use Rattle.lk_typed.specs.Elaborated.{Makes}
use Rattle.lk_typed.specs.Elaborated.IsOperand.{constant}
use Rattle.lk_typed.specs.Meaning.{meaning_of}
use Rattle.lk_typed.specs.declared.expression.Callee.TheOpen.{TypedForm-F}
use Rattle.lk_typed.specs.Typing.{known_value}
use Rattle.lk_elaborator.proofs.parts.moving.Goals as goal

pub returns-in-Some-clause-operand : goal.returns-in-Some-clause-operand
returns-in-Some-clause-operand c = IfOk-weaker c.number_of.result _ _ (λ part gives p same true_of tables leads folded t is moves moving.
    let has = c.in_ok-v.ensures.value p same true_of in
    let exact : to_z w128 (of_z w128 c.in-Some.number) ≡ c.in-Some.number = search rules in
    constant moving has.found (ap known_value (sym has.is.constant) ∙ sym c.known_value.ensures ∙ c.in-Some.is) (subst (λ z. Makes tables p (meaning_of c.args.walk.now.types c.args.target.now) (TypedForm-F.Number z) t) exact (gives p true_of tables leads folded t is))) c.number_of.ensures.number
