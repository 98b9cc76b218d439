use Rattle.std.proofs.Common.{◌∙◌, ap}
use Rattle.lk_base.specs.declared.code.Code.TheVariants.{StructValue, MutexValue}
use Rattle.lk_typed.specs.Codes.{least_code}
use Rattle.lk_typed.specs.Meaning.{meaning_of}
use Rattle.lk_typed.specs.Ty.{is_struct, is_lock}
use Rattle.lk_typed.specs.Typing.{if_so}
use Rattle.lk_typed.proofs.Verdicts.{both_least}
use Rattle.lk_check_expr.proofs.calls.whole_code.Goals as goal

pub returns : goal.returns
returns c =
    let t = meaning_of c.args.types.now c.args.ty.now in
    both_least (if_so (is_struct t) StructValue) (if_so (is_lock t) MutexValue)
    (c.code_if-of_struct.ensures ∙ ap (λ b. least_code (if_so b StructValue)) c.is_struct.ensures)
    (c.code_if-of_lock.ensures ∙ ap (λ b. least_code (if_so b MutexValue)) c.is_lock.ensures) c.lesser.ensures
