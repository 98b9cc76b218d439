use Rattle.std.proofs.Common.{◌≡◌, ◌∙◌, [], sym, subst}
use Rattle.std.specs.Prelude.{if◌then◌else◌}
use Rattle.lk_typed.specs.Addresses.{value}
use Rattle.lk_typed.specs.Assignments as spec
use Rattle.lk_typed.specs.Conversions.{conversion_codes}
use Rattle.lk_typed.specs.Codes.{least_code}
use Rattle.lk_typed.specs.Typings.{typing}
use Rattle.lk_typed.proofs.Verdicts.{then_each}
use Rattle.lk_check_expr.proofs.assignments.plain_code.Goals as goal

pub returns-else-is_function : goal.returns-else-is_function
returns-else-is_function c = λ p q.
    let table = c.args.types.now in
    let x = typing table c.args.left.now p in
    let y = typing table c.args.right.now q in
    let given = then_each table c.value-v.result (value y) (λ v. c.convert_code.result ≡ least_code (conversion_codes x.type v)) (c.value-v.ensures.value q) c.convert_code.ensures in
    subst (λ function. c.convert_code.result ≡ least_code (if function then [] else spec.given_codes x.type y)) (sym (sym c.is_function.ensures ∙ c.if-is_function.false)) given
