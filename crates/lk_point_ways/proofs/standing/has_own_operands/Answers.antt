use Rattle.std.proofs.Common.{◌≡◌, Some, ◌∙◌, sym, subst}
use Rattle.std.proofs.lemmas.Option.{same_Some}
use Rattle.lk_facts.specs.InRange.{AllOperands}
use Rattle.lk_facts.specs.Program.{function_at}
use Rattle.lk_point_ways.proofs.standing.has_own_operands.Goals as goal

pub returns : goal.returns
returns c =
    let program = c.args.points.now in
    let own = c.function.ensures.value in (
      (λ holds action at.
          subst (λ f. AllOperands (λ a. function_at program a ≡ f) action) (sym own)
          (subst (AllOperands (λ a. function_at program a ≡ Some c.function.result)) (same_Some _ _ (sym c.action.ensures.value ∙ at)) (c.operands_stand.ensures.0 holds))),
      (λ keeps. c.operands_stand.ensures.1 (subst (λ f. AllOperands (λ a. function_at program a ≡ f) c.action.result.now) own (keeps c.action.result.now c.action.ensures.value))),
    )
