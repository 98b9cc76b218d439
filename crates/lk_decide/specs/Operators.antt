-- Why an operator or a conversion is undefined (C99 6.3, 6.5).
use Rattle.std.specs.Prelude.{ℕ, Option, option_and_then}
use Rattle.std.specs.Result.{result_err}
use Rattle.lk_arith.specs.declared.operators.Op.{Op}
use Rattle.lk_arith.specs.declared.operators.UnaryOp.{UnaryOp}
use Rattle.lk_facts.specs.Program.{value_type_at}
use Rattle.lk_facts.specs.declared.program.Program.{Program}
use Rattle.lk_cells.specs.declared.state.State.{State}
use Rattle.lk_cells.specs.declared.state.Thread.{Thread}
use Rattle.lk_values.specs.Causes.{◌or◌}
use Rattle.lk_cells.specs.Computing as computing
use Rattle.lk_cells.specs.Converting as converting
use Rattle.lk_cells.specs.Computing.{Computed}
use Rattle.lk_cells.specs.Operands.{operand, used}
use Rattle.lk_values.specs.declared.why.Why.{Why}

-- the cause of what is computed
abbrev pub cause_of : Computed → Option Why
cause_of computed = option_and_then result_err computed

module _ (program : Program) (s : State) where
  -- an operator is applied to its operands, or an operand is converted to a type; operands are used
  abbrev pub binary_row : Thread → Op → ℕ → ℕ → Option Why
  binary_row thread op a b =
      (used (operand thread a) or used (operand thread b)) or cause_of
      (option_and_then (λ x. option_and_then (computing.binary program.types s op x) (operand thread b)) (operand thread a))

  abbrev pub convert_row : Thread → ℕ → ℕ → Option Why
  convert_row thread a ty =
      used (operand thread a) or cause_of
      (option_and_then (converting.converted_to program.types s (value_type_at program a) ty) (operand thread a))

abbrev pub unary_row : Thread → UnaryOp → ℕ → Option Why
unary_row thread op a =
    used (operand thread a) or cause_of (option_and_then (computing.unary_of op) (operand thread a))
