use Rattle.std.proofs.Common.{◌≡◌, Some, ◌∙◌, ap, sym, subst}
use Rattle.std.specs.Prelude.{All}
use Rattle.std.proofs.lemmas.Option.{same_Some}
use Rattle.lk_facts.specs.Program.{action_at, next_of}
use Rattle.lk_facts.specs.declared.action.Action.TheVariants.{Release, Retake}
use Rattle.lk_point_ways.proofs.Below.{all_numbers}
use Rattle.lk_point_ways.proofs.waiting.retakes.Goals as goal

pub returns-in-Some : goal.returns-in-Some
returns-in-Some c =
    let program = c.args.points.now in
    let given = c.in-Some.mutex in
    let each = all_numbers (λ q. action_at program q ≡ Some (Retake given)) (next_of program c.args.p) in (
      (λ holds q cond mutex at next.
          let same : mutex ≡ given = let one : Release cond mutex ≡ Release c.in-Some.ensures.0 given = same_Some _ _ (sym at ∙ c.action.ensures.value) ∙ c.in-Some.ensures.1 in cc one in
          subst (λ m. action_at program q ≡ Some (Retake m)) (sym same)
          (each.0 (subst (All (λ q. action_at program q ≡ Some (Retake given))) c.next.ensures.value (c.all_retake.ensures.0 holds)) q next)),
      (λ keeps. c.all_retake.ensures.1 (subst (All (λ q. action_at program q ≡ Some (Retake given))) (sym c.next.ensures.value)
          (each.1 (λ q next. keeps q c.in-Some.ensures.0 given (c.action.ensures.value ∙ ap Some c.in-Some.ensures.1) next)))),
    )
