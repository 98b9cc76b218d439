use Rattle.std.proofs.Common.{◌≡◌, Some, ◌∙◌, sym, subst}
use Rattle.std.specs.Prelude.{All}
use Rattle.lk_facts.specs.Program.{function_at, next_of}
use Rattle.lk_point_ways.proofs.Below.{all_numbers}
use Rattle.lk_point_ways.proofs.standing.has_own_successors.Goals as goal

pub returns : goal.returns
returns c =
    let program = c.args.points.now in
    let own = c.function.ensures.value in
    let each = all_numbers (λ q. function_at program q ≡ Some c.function.result) (next_of program c.args.p) in (
      (λ holds q next. each.0 (subst (All (λ q. function_at program q ≡ Some c.function.result)) c.next.ensures.value (c.all_stand.ensures.0 holds)) q next ∙ sym own),
      (λ keeps. c.all_stand.ensures.1 (subst (All (λ q. function_at program q ≡ Some c.function.result)) (sym c.next.ensures.value) (each.1 (λ q next. keeps q next ∙ own)))),
    )
