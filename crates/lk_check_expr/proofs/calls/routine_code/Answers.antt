use Rattle.std.specs.Prelude.{not}
use Rattle.lk_base.specs.declared.code.Code.TheVariants.{StartRoutine}
use Rattle.lk_typed.specs.Calls.{passed_whole_codes}
use Rattle.lk_typed.specs.Typing.{if_so}
use Rattle.lk_typed.specs.Typings.{typing}
use Rattle.lk_typed.proofs.Verdicts.{both_least}
use Rattle.lk_check_expr.proofs.calls.routine_code.Goals as goal

pub returns : goal.returns
returns c = λ p.
    both_least (if_so (not c.args.is_routine) StartRoutine) (passed_whole_codes (typing c.args.types.now c.args.e.now p).type)
    c.code_if-other.ensures c.whole_code-whole.ensures c.lesser.ensures
