use Rattle.std.proofs.Common.{◌∙◌, ◌++◌, ap}
use Rattle.lk_base.specs.declared.code.Code.TheVariants.{MutexValue}
use Rattle.lk_typed.specs.Ty.{is_lock}
use Rattle.lk_typed.specs.Typing.{if_so, value_of_type}
use Rattle.lk_typed.specs.Codes.{least_code}
use Rattle.lk_typed.specs.Typings.{typing}
use Rattle.lk_typed.proofs.Verdicts.{both_least, unless_verdict}
use Rattle.lk_check_expr.proofs.choices.comma.Goals as goal

pub returns : goal.returns
returns c = λ p q.
    let table = c.args.types.now in
    let x = typing table c.args.left.now p in
    let y = typing table c.args.right.now q in
    let first = if_so (is_lock x.type) MutexValue in
    let second = if_so (is_lock y.type) MutexValue in
    let left = c.code_if-first.ensures ∙ ap (λ lock. least_code (if_so lock MutexValue)) c.is_lock-left_lock.ensures in
    let right = c.code_if-second.ensures ∙ ap (λ lock. least_code (if_so lock MutexValue)) c.is_lock-right_lock.ensures in
    unless_verdict table c.of_type-typed.result (first ++ second) (value_of_type y.type) c.unless.ensures
    (both_least first second left right c.lesser-code.ensures) (c.of_type-typed.ensures table c.requires.right.known)
