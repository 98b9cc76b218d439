use Rattle.std.proofs.Common.{◌∙◌}
use Rattle.std.proofs.lemmas.Result.{IfOk-weaker}
use Rattle.lk_typed.specs.Elaborated.IsOperand.{computes}
use Rattle.lk_elaborator.proofs.parts.operand_part.Goals as goal

pub returns-then-moves-clause-operand : goal.returns-then-moves-clause-operand
returns-then-moves-clause-operand c = IfOk-weaker c.moving.result _ _ (λ part gives p same true_of tables leads folded t is moves moving.
    gives p same true_of tables leads folded t is moves (moving ∙ c.if-moves.true)) c.moving.ensures.operand

pub returns-else-moves-clause-operand : goal.returns-else-moves-clause-operand
returns-else-moves-clause-operand c = IfOk-weaker c.converted_operand.result _ _ (λ part gives p same true_of tables leads folded t is moves moving.
    computes (moving ∙ c.if-moves.false) (gives p same true_of tables leads folded t is)) c.converted_operand.ensures.converted
