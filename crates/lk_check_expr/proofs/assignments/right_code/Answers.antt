use Rattle.std.proofs.Common.{◌≡◌, sym, subst}
use Rattle.lk_typed.specs.Addresses.{value}
use Rattle.lk_typed.specs.Assignments as spec
use Rattle.lk_typed.specs.Codes.{least_code}
use Rattle.lk_typed.specs.Typings.{typing, structs_in}
use Rattle.lk_typed.proofs.Verdicts.{then_both}
use Rattle.lk_check_expr.proofs.assignments.right_code.Goals as goal

pub returns-in-None : goal.returns-in-None
returns-in-None c = λ p q.
    let table = c.args.types.now in
    let x = typing table c.args.left.now p in
    let y = typing table c.args.right.now q in
    subst (λ op. c.plain_code.result ≡ least_code (spec.right_codes (structs_in table c.args.structs.now) op x y)) (sym c.in-None.is) (c.plain_code.ensures p q)

pub returns-in-Some : goal.returns-in-Some
returns-in-Some c = λ p q.
    let table = c.args.types.now in
    let x = typing table c.args.left.now p in
    let y = typing table c.args.right.now q in
    let structs = structs_in table c.args.structs.now in
    let code = then_both table c.value-a.result c.value-b.result (value x) (value y)
    (λ v w. c.computed_code.result ≡ least_code (spec.computed_codes structs c.in-Some.op x.type v w)) (c.value-a.ensures.value p) (c.value-b.ensures.value q) c.computed_code.ensures in
    subst (λ op. c.computed_code.result ≡ least_code (spec.right_codes structs op x y)) (sym c.in-Some.is) code
