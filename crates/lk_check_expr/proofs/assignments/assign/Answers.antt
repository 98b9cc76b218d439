use Rattle.std.proofs.Common.{◌≡◌, ◌++◌, subst}
use Rattle.std.specs.Prelude.{not}
use Rattle.lk_base.specs.declared.code.Code.TheVariants.{NotAPlace}
use Rattle.lk_typed.specs.Assignments as spec
use Rattle.lk_typed.specs.Typing.{if_so, value_of_type}
use Rattle.lk_typed.specs.Codes.{least_code}
use Rattle.lk_typed.specs.Typings.{typing, structs_in}
use Rattle.lk_typed.proofs.Verdicts.{both_least, unless_verdict}
use Rattle.lk_check_expr.proofs.assignments.assign.Goals as goal

pub returns : goal.returns
returns c = λ p q.
    let table = c.args.types.now in
    let x = typing table c.args.left.now p in
    let y = typing table c.args.right.now q in
    let structs = structs_in table c.args.structs.now in
    let place = if_so (not x.is_place) NotAPlace in
    let right = spec.right_codes structs (spec.operator_of c.args.op) x y in
    let code = subst (λ op. c.right_code-right_side.result ≡ least_code (spec.right_codes structs op x y)) c.operator_of-by.ensures (c.right_code-right_side.ensures p q) in
    unless_verdict table c.of_type-typed.result (place ++ right) (value_of_type x.type) c.unless.ensures
    (both_least place right c.code_if-place.ensures code c.lesser-code.ensures) (c.of_type-typed.ensures table c.requires.left.known)
