use Rattle.std.proofs.Common.{◌++◌}
use Rattle.std.specs.Prelude.{not}
use Rattle.lk_base.specs.declared.code.Code.TheVariants.{NotAPlace}
use Rattle.lk_typed.specs.Operators.{must_be}
use Rattle.lk_typed.specs.Places as spec
use Rattle.lk_typed.specs.Typing.{if_so, value_of_type}
use Rattle.lk_typed.specs.Typings.{typing, structs_in}
use Rattle.lk_typed.proofs.LeastCodes.{told_operand}
use Rattle.lk_typed.proofs.Verdicts.{both_least, unless_verdict}
use Rattle.lk_check_expr.proofs.places.step.Goals as goal

pub returns : goal.returns
returns c = λ p.
    let table = c.args.types.now in
    let x = typing table c.args.e.now p in
    let place = if_so (not x.is_place) NotAPlace in
    let counted = must_be (spec.is_counted (structs_in table c.args.structs.now)) x.type in
    let code = told_operand c.is_lock-lock.ensures c.is_counted-counted.ensures c.operand_code-counted_code.ensures in
    unless_verdict table c.of_type-typed.result (place ++ counted) (value_of_type x.type) c.unless.ensures
    (both_least place counted c.code_if-place.ensures code c.lesser-code.ensures) (c.of_type-typed.ensures table c.requires.known)
