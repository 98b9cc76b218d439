-- The operators between two operands, each a row of a table (C99 6.5.5 to 6.5.14); `?:` and the comma
-- (6.5.15, 6.5.17). Operands are values, as `value` of Addresses gives them.
use Rattle.std.specs.Prelude.{Bool, true, false, not, ◌&&◌, ◌||◌, Option, Some, None, List, [], ◌∷◌, ◌++◌, if◌then◌else◌}
use Rattle.lk_base.specs.declared.kind.Kind.{Kind}
use Rattle.lk_base.specs.declared.kind.Kind.TheVariants as kind
use Rattle.lk_base.specs.declared.code.Code.{Code}
use Rattle.lk_base.specs.declared.code.Code.TheVariants.{Mismatch, MutexValue}
use Rattle.lk_arith.specs.declared.operators.Op.{Op}
use Rattle.lk_arith.specs.declared.operators.Op.TheVariants as op
use Rattle.lk_arith.specs.Conversions.{promoted, usual}
use Rattle.lk_arith.specs.Operators.{result_kind}
use Rattle.lk_tree.specs.declared.operators.BinaryOperator.{BinaryOperator}
use Rattle.lk_tree.specs.declared.operators.BinaryOperator.TheVariants as binary
use Rattle.lk_typed.specs.declared.binary_row.BinaryRow.{BinaryRow}
use Rattle.lk_typed.specs.declared.binary_row.BinaryRow.TheVariants.{Logical, Integers, Shift, Sum, Difference, Order, Equality}
use Rattle.lk_typed.specs.Ty.{Ty, Void, kind_of, target_of, holds_of, is_void, is_integer, is_pointer, is_lock, is_thread_id, long, void_pointer}
use Rattle.lk_typed.specs.Env.{Members}
use Rattle.lk_typed.specs.declared.constant.Constant.{Constant}
use Rattle.lk_typed.specs.declared.constant.Constant.TheVariants.{NotConstant}
use Rattle.lk_typed.specs.Typing.{Typing, Address, Verdict, Typed, Broken, value_of_type, integer, if_so, unless}
use Rattle.lk_typed.specs.Sizes.{is_complete}
use Rattle.lk_typed.specs.Addresses.{moved, moved_back}
use Rattle.lk_typed.specs.Constants.{binary_constant, shift_constant, logical_constant, choice_constant}
use Rattle.lk_typed.specs.Conversions.{are_same_pointers, are_void_and_object}

-- ---- operands

-- an integer or a pointer: what may be a condition (C99 6.5.3.3, 1; 6.8.4.1, 1)
abbrev pub is_condition : Ty → Bool
is_condition t = is_integer t || is_pointer t

-- a scalar type (C99 6.2.5, 21); thread ids are of one too
abbrev pub is_scalar : Ty → Bool
is_scalar t = is_condition t || is_thread_id t

-- an operand that must be such a type: 45 for a mutex and a condition variable, which are no values; else 22
abbrev pub must_be : (Ty → Bool) → Ty → List Code
must_be test t = if is_lock t then MutexValue ∷ [] else if_so (not (test t)) Mismatch

-- a pointer to a complete object type, which arithmetic asks for (C99 6.5.6, 2)
abbrev pub is_steppable : List Members → Ty → Bool
is_steppable structs t = holds_of (target_of t) (λ target. is_complete structs target)

-- what holds of the codes found so far, and of a row of a table, which has no result for
-- operands that it doesn't take
abbrev pub by_row : List Code → Option Typing → Verdict
by_row [] None = Broken (Mismatch ∷ [])
by_row [] (Some typing) = Typed typing
by_row (code ∷ others) None = Broken (code ∷ others)
by_row (code ∷ others) (Some typing) = Broken (code ∷ others)

-- ---- the table

-- the row of each operator
abbrev pub row_of : BinaryOperator → BinaryRow
row_of binary.Or = Logical true
row_of binary.And = Logical false
row_of binary.BitOr = Integers op.Or
row_of binary.BitXor = Integers op.Xor
row_of binary.BitAnd = Integers op.And
row_of binary.Equal = Equality op.Equal
row_of binary.NotEqual = Equality op.NotEqual
row_of binary.Less = Order op.Less
row_of binary.Greater = Order op.Greater
row_of binary.LessEqual = Order op.LessOrEqual
row_of binary.GreaterEqual = Order op.GreaterOrEqual
row_of binary.ShiftLeft = Shift op.ShiftLeft
row_of binary.ShiftRight = Shift op.ShiftRight
row_of binary.Add = Sum
row_of binary.Subtract = Difference
row_of binary.Multiply = Integers op.Multiply
row_of binary.Divide = Integers op.Divide
row_of binary.Remainder = Integers op.Remainder

-- ---- what the rows take, and what they give

-- two integers, by their kinds
abbrev pub with_kinds : Option Kind → Option Kind → (Kind → Kind → Typing) → Option Typing
with_kinds None b give = None
with_kinds (Some j) None give = None
with_kinds (Some j) (Some k) give = Some (give j k)

abbrev pub if_taken : Bool → Typing → Option Typing
if_taken takes typing = if takes then Some typing else None

-- the first of two results that is there
abbrev pub either : Option Typing → Option Typing → Option Typing
either (Some typing) other = Some typing
either None other = other

-- an operator that computes at the common kind (C99 6.3.1.8)
abbrev pub at_common_kind : Op → Typing → Typing → Option Typing
at_common_kind o a b =
    with_kinds (kind_of a.type) (kind_of b.type)
    (λ j k. integer (result_kind o (usual j k)) (binary_constant o (usual j k) a.constant b.constant))

abbrev pub shifted : Op → Typing → Typing → Option Typing
shifted o a b =
    with_kinds (kind_of a.type) (kind_of b.type)
    (λ j k. integer (promoted j) (shift_constant o (promoted j) a.constant b.constant))

-- a pointer that moved, as `address` says
abbrev pub moved_pointer : Typing → Address → Typing
moved_pointer p address =
    record { type = p.type; is_place = false; constant = NotConstant; is_null = false; address = address }

-- a truth value that is no constant
abbrev pub plain_truth : Typing
plain_truth = integer kind.Int NotConstant

-- a pointer beside a null pointer constant (C99 6.5.9, 2; 6.5.15, 3)
abbrev pub is_pointer_beside_null : Typing → Typing → Bool
is_pointer_beside_null a b = is_pointer a.type && b.is_null

-- pointers that == and != compare: equal types, one beside a null pointer constant, or one beside void *
abbrev pub are_comparable : Typing → Typing → Bool
are_comparable a b =
    are_same_pointers a.type b.type || is_pointer_beside_null a b || is_pointer_beside_null b a
    || are_void_and_object a.type b.type

-- && and ||
abbrev pub logical : Bool → Typing → Typing → Option Typing
logical decides a b =
    if_taken (is_condition a.type && is_condition b.type)
    (integer kind.Int (logical_constant decides a.constant b.constant))

-- a pointer with an integer on its right, by where it moves
abbrev pub moved_to : Address → List Members → Typing → Typing → Option Typing
moved_to to structs a b = if_taken (is_steppable structs a.type && is_integer b.type) (moved_pointer a to)

-- how far apart two pointers of one type are (C99 6.5.6, 9)
abbrev pub distance : List Members → Typing → Typing → Option Typing
distance structs a b =
    if_taken (is_steppable structs a.type && are_same_pointers a.type b.type) (value_of_type long)

-- + and - (C99 6.5.6, 2 and 3)
abbrev pub sum : List Members → Typing → Typing → Option Typing
sum structs a b = either (at_common_kind op.Add a b) (moved_to (moved a.address b.constant) structs a b)

abbrev pub difference : List Members → Typing → Typing → Option Typing
difference structs a b =
    either (at_common_kind op.Subtract a b)
    (either (moved_to (moved_back a.address b.constant) structs a b) (distance structs a b))

-- an order, and == or != (C99 6.5.8, 2; 6.5.9, 2)
abbrev pub order : Op → Typing → Typing → Option Typing
order o a b = either (at_common_kind o a b) (if_taken (are_same_pointers a.type b.type) plain_truth)

abbrev pub equality : Op → Typing → Typing → Option Typing
equality o a b = either (at_common_kind o a b) (if_taken (are_comparable a b) plain_truth)

abbrev pub result_of : List Members → BinaryRow → Typing → Typing → Option Typing
result_of structs (Logical decides) a b = logical decides a b
result_of structs (Integers o) a b = at_common_kind o a b
result_of structs (Shift o) a b = shifted o a b
result_of structs Sum a b = sum structs a b
result_of structs Difference a b = difference structs a b
result_of structs (Order o) a b = order o a b
result_of structs (Equality o) a b = equality o a b

abbrev pub binary_rule : List Members → BinaryOperator → Typing → Typing → Verdict
binary_rule structs o a b =
    by_row (must_be is_scalar a.type ++ must_be is_scalar b.type) (result_of structs (row_of o) a b)

-- ---- ?: (C99 6.5.15)

-- of two integers
abbrev pub chosen_integer : Constant → Typing → Typing → Option Typing
chosen_integer c a b =
    with_kinds (kind_of a.type) (kind_of b.type)
    (λ j k. integer (usual j k) (choice_constant (usual j k) c a.constant b.constant))

-- of others; the first line that takes the arms gives the result, so of two null pointer constants
-- the one of pointer type counts
abbrev pub chosen_other : Typing → Typing → Option Typing
chosen_other a b =
    either (if_taken (is_void a.type && is_void b.type) (value_of_type Void))
    (either (if_taken (are_same_pointers a.type b.type) (value_of_type a.type))
    (either (if_taken (is_pointer_beside_null a b) (value_of_type a.type))
    (either (if_taken (is_pointer_beside_null b a) (value_of_type b.type))
    (if_taken (are_void_and_object a.type b.type) (value_of_type void_pointer)))))

abbrev pub choice_result : Typing → Typing → Typing → Option Typing
choice_result c a b = either (chosen_integer c.constant a b) (chosen_other a b)

-- 45 for an arm that is a mutex or condition variable; else 22 where no line takes the arms
abbrev pub arm_codes : Typing → Typing → Option Typing → List Code
arm_codes a b None = if is_lock a.type || is_lock b.type then MutexValue ∷ [] else Mismatch ∷ []
arm_codes a b (Some typing) = []

abbrev pub choice_rule : Typing → Typing → Typing → Verdict
choice_rule c a b =
    by_row (must_be is_condition c.type ++ arm_codes a b (choice_result c a b)) (choice_result c a b)

-- ---- the comma (C99 6.5.17): the left operand is dropped, the right one is the value, and no place; a mutex is no value

abbrev pub comma_rule : Typing → Typing → Verdict
comma_rule left right =
    unless (if_so (is_lock left.type) MutexValue ++ if_so (is_lock right.type) MutexValue)
    (value_of_type right.type)
