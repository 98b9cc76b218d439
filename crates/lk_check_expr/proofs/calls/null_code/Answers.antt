use Rattle.std.proofs.Common.{◌∙◌, ap}
use Rattle.std.specs.Prelude.{not}
use Rattle.lk_typed.specs.Addresses.{value}
use Rattle.lk_typed.specs.Calls.{passed_whole_codes}
use Rattle.lk_typed.specs.Codes.{least_code}
use Rattle.lk_typed.specs.Typing.{if_so}
use Rattle.lk_typed.specs.Typings.{typing}
use Rattle.lk_typed.proofs.Verdicts.{both_least}
use Rattle.lk_check_expr.proofs.calls.null_code.Goals as goal

pub returns : goal.returns
returns c = λ p.
    let x = typing c.args.types.now c.args.e.now p in
    both_least (if_so (not (value x).is_null) c.args.code) (passed_whole_codes x.type)
    (c.code_if-other.ensures ∙ ap (λ b. least_code (if_so (not b) c.args.code)) (c.value-v.ensures.value p).null) c.whole_code-whole.ensures c.lesser.ensures
