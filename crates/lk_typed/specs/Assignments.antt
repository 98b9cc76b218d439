-- Assignments and casts (C99 6.5.4, 6.5.16), and what statements, initialisers and arguments ask of a value.
use Rattle.std.specs.Prelude.{not, if◌then◌else◌, Option, Some, None, List, [], ◌∷◌, ◌++◌}
use Rattle.lk_base.specs.declared.code.Code.{Code}
use Rattle.lk_base.specs.declared.code.Code.TheVariants.{Mismatch, NotAPlace, MutexValue}
use Rattle.lk_tree.specs.declared.operators.AssignOperator.{AssignOperator}
use Rattle.lk_tree.specs.declared.operators.AssignOperator.TheVariants as assign
use Rattle.lk_tree.specs.declared.operators.BinaryOperator.{BinaryOperator}
use Rattle.lk_tree.specs.declared.operators.BinaryOperator.TheVariants as binary
use Rattle.lk_typed.specs.Ty.{Ty, is_function, is_integer, is_lock}
use Rattle.lk_typed.specs.Env.{Members}
use Rattle.lk_typed.specs.Typing.{Typing, Verdict, value_of_type, if_so, unless}
use Rattle.lk_typed.specs.Addresses.{value}
use Rattle.lk_typed.specs.Conversions.{conversion_codes, cast_codes, converted}
use Rattle.lk_typed.specs.Operators.{is_condition, is_scalar, must_be, result_of, row_of}

-- ---- what asks for a value

-- an expression whose value is converted to a type without a cast: by assignment, as an argument, a result or
-- an initialiser (C99 6.5.16.1, 6.5.2.2, 7; 6.8.6.4, 3; 6.7.8, 11)
abbrev pub given_codes : Ty → Typing → List Code
given_codes target e = conversion_codes target (value e)

-- the condition of if, while, do, for and ?: (C99 6.8.4.1, 1; 6.8.5, 2)
abbrev pub condition_codes : Typing → List Code
condition_codes e = must_be is_condition (value e).type

-- the value of a switch, an index, an array's size (C99 6.8.4.2, 1)
abbrev pub integer_codes : Typing → List Code
integer_codes e = must_be is_integer (value e).type

-- an expression statement, and the parts of a for that aren't its condition: the value is dropped; a
-- mutex is no value (C99 6.8.3, 2)
abbrev pub dropped_codes : Typing → List Code
dropped_codes e = if_so (is_lock e.type) MutexValue

-- ---- assignments

-- the operator with which `op=` computes
abbrev pub operator_of : AssignOperator → Option BinaryOperator
operator_of assign.Plain = None
operator_of assign.Multiply = Some binary.Multiply
operator_of assign.Divide = Some binary.Divide
operator_of assign.Remainder = Some binary.Remainder
operator_of assign.Add = Some binary.Add
operator_of assign.Subtract = Some binary.Subtract
operator_of assign.ShiftLeft = Some binary.ShiftLeft
operator_of assign.ShiftRight = Some binary.ShiftRight
operator_of assign.BitAnd = Some binary.BitAnd
operator_of assign.BitXor = Some binary.BitXor
operator_of assign.BitOr = Some binary.BitOr

-- what is computed converts back to the type of the left side
abbrev pub back_codes : Ty → Option Typing → List Code
back_codes target None = Mismatch ∷ []
back_codes target (Some computed) = conversion_codes target computed

-- codes, and where there are none those of a rule behind them
abbrev pub or_behind : List Code → List Code → List Code
or_behind [] behind = behind
or_behind (code ∷ others) behind = code ∷ others

-- `=` converts to the type of the left side, where that is no function (C99 6.5.16.1)
abbrev pub plain_codes : Typing → Typing → List Code
plain_codes left right = if is_function left.type then [] else given_codes left.type right

-- `op=` computes on two values, and converts back (C99 6.5.16.2)
abbrev pub computed_codes : List Members → BinaryOperator → Ty → Typing → Typing → List Code
computed_codes structs o target a b =
    or_behind (must_be is_scalar a.type ++ must_be is_scalar b.type)
    (back_codes target (result_of structs (row_of o) a b))

abbrev pub right_codes : List Members → Option BinaryOperator → Typing → Typing → List Code
right_codes structs None left right = plain_codes left right
right_codes structs (Some o) left right = computed_codes structs o left.type (value left) (value right)

-- the left side is a place (C99 6.5.16, 2)
abbrev pub assign_rule : List Members → AssignOperator → Typing → Typing → Verdict
assign_rule structs o left right =
    unless (if_so (not left.is_place) NotAPlace ++ right_codes structs (operator_of o) left right)
    (value_of_type left.type)

-- ---- casts

abbrev pub cast_rule : Ty → Typing → Verdict
cast_rule target e = unless (cast_codes target (value e)) (converted target (value e))
