use Rattle.std.proofs.Common.{◌∙◌, ◌++◌, ap}
use Rattle.std.specs.Prelude.{◌||◌}
use Rattle.lk_typed.specs.Operators.{must_be, is_condition, arm_codes, choice_result, chosen_integer, chosen_other}
use Rattle.lk_typed.specs.Ty.{is_lock}
use Rattle.lk_typed.specs.Codes.{arm_code}
use Rattle.lk_typed.specs.Typings.{typing}
use Rattle.lk_typed.proofs.Verdicts.{both_least, row_verdict, same_there}
use Rattle.lk_check_expr.proofs.Rows.{arms_least}
use Rattle.lk_check_expr.proofs.choices.choice.Goals as goal

pub returns : goal.returns
returns c = λ r p q.
    let table = c.args.types.now in
    let x = typing table c.args.a.now p in
    let y = typing table c.args.b.now q in
    let z = typing table c.args.condition.now r in
    let found = choice_result z x y in
    let row = c.either-row.ensures table (chosen_integer z.constant x y) (chosen_other x y) (c.chosen_integer-integer.ensures p q) (c.chosen_other-other.ensures p q) in
    let taken = c.is_some-taken.ensures ∙ same_there table c.either-row.result found row in
    let arms = c.arm_code-arms.ensures ∙ ap (λ lock. arm_code lock c.is_some-taken.result) c.has_lock-lock.ensures ∙ ap (arm_code (is_lock x.type || is_lock y.type)) taken ∙ arms_least x y found in
    row_verdict table c.either-row.result (must_be is_condition z.type ++ arm_codes x y found) found c.by_row.ensures
    (both_least (must_be is_condition z.type) (arm_codes x y found) c.condition_code-operand.ensures arms c.lesser-code.ensures) row
