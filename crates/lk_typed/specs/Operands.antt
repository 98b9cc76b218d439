-- Which types the operands of an operator are converted to before it computes (C99 6.3.1.1, 6.3.1.8, 6.5.3.3
-- to 6.5.14). Where an operand has that type already nothing is converted. A condition keeps its type, and so
-- do both operands of a pointer that moves. Operands are values, as `value` of Addresses gives them.
use Rattle.std.specs.Prelude.{Bool, false, ◌&&◌, Option, Some, None, if◌then◌else◌}
use Rattle.lk_arith.specs.Conversions.{promoted, usual}
use Rattle.lk_arith.specs.declared.operators.Op.{Op}
use Rattle.lk_arith.specs.declared.operators.Op.TheVariants as op
use Rattle.lk_arith.specs.declared.operators.UnaryOp.{UnaryOp}
use Rattle.lk_arith.specs.declared.operators.UnaryOp.TheVariants as u
use Rattle.lk_base.specs.declared.kind.Kind.{Kind}
use Rattle.lk_base.specs.declared.kind.Kind.TheVariants as kind
use Rattle.lk_tree.specs.declared.operators.PrefixOperator.{PrefixOperator}
use Rattle.lk_tree.specs.declared.operators.PrefixOperator.TheVariants as prefix
use Rattle.lk_typed.specs.Conversions.{are_same_pointers}
use Rattle.lk_typed.specs.Operators.{is_pointer_beside_null}
use Rattle.lk_typed.specs.Ty.{Ty, Void, Int, ThreadId, Mutex, Cond, Pointer, Array, Struct, Function, Opaque, kind_of, is_integer, is_pointer, void_pointer}
use Rattle.lk_typed.specs.Typing.{Typing}
use Rattle.lk_typed.specs.declared.binary_row.BinaryRow.{BinaryRow}
use Rattle.lk_typed.specs.declared.binary_row.BinaryRow.TheVariants.{Logical, Integers, Shift, Sum, Difference, Order, Equality}

-- ---- the type of a node

-- a function has no value but the pointer to it, so a node that names a function
-- has that type (C99 6.3.2.1, 4)
abbrev pub node_type : Ty → Ty
node_type Void = Void
node_type (Int k) = Int k
node_type ThreadId = ThreadId
node_type Mutex = Mutex
node_type Cond = Cond
node_type (Pointer t) = Pointer t
node_type (Array t n) = Array t n
node_type (Struct s) = Struct s
node_type (Function result params dots) = Pointer (Function result params dots)
node_type (Opaque n) = Opaque n

-- ---- the integer promotions (C99 6.3.1.1, 2)

abbrev pub promoted_type : Ty → Ty
promoted_type Void = Void
promoted_type (Int k) = Int (promoted k)
promoted_type ThreadId = ThreadId
promoted_type Mutex = Mutex
promoted_type Cond = Cond
promoted_type (Pointer t) = Pointer t
promoted_type (Array t n) = Array t n
promoted_type (Struct s) = Struct s
promoted_type (Function result params dots) = Function result params dots
promoted_type (Opaque n) = Opaque n

-- the operators whose operand is promoted (C99 6.5.3.3, 2 to 4); `!` tests its operand as
-- a condition does (6.5.3.3, 5)
abbrev pub promoting : PrefixOperator → Option UnaryOp
promoting prefix.Address = None
promoting prefix.Indirection = None
promoting prefix.Plus = Some u.Plus
promoting prefix.Minus = Some u.Negate
promoting prefix.Complement = Some u.Complement
promoting prefix.Not = None

-- ---- operators between two operands

-- what an operator computes; && and || only decide
abbrev pub computed_by : BinaryRow → Option Op
computed_by (Logical decides) = None
computed_by (Integers o) = Some o
computed_by (Shift o) = Some o
computed_by Sum = Some op.Add
computed_by Difference = Some op.Subtract
computed_by (Order o) = Some o
computed_by (Equality o) = Some o

-- the types of a left and a right operand
pub record OperandTypes : Type 0 where
  pub left : Ty
  pub right : Ty

abbrev pub own_types : Typing → Typing → OperandTypes
own_types a b = record { left = a.type; right = b.type }

-- the usual arithmetic conversions, where both are integers
abbrev pub usual_of : Option Kind → Option Kind → OperandTypes → OperandTypes
usual_of None b others = others
usual_of (Some j) None others = others
usual_of (Some j) (Some k) others = record { left = Int (usual j k); right = Int (usual j k) }

abbrev pub usual_types : Typing → Typing → OperandTypes → OperandTypes
usual_types a b others = usual_of (kind_of a.type) (kind_of b.type) others

-- pointers that == and != compare: a null pointer constant gets the type of the other one, else both are void
-- * where one is (C99 6.5.9, 5)
abbrev pub compared_types : Typing → Typing → OperandTypes
compared_types a b =
    if are_same_pointers a.type b.type then own_types a b
    else if is_pointer_beside_null a b then record { left = a.type; right = a.type }
    else if is_pointer_beside_null b a then record { left = b.type; right = b.type }
    else record { left = void_pointer; right = void_pointer }

abbrev pub operand_types : BinaryRow → Typing → Typing → OperandTypes
operand_types (Logical decides) a b = own_types a b
operand_types (Integers o) a b = usual_types a b (own_types a b)
operand_types (Shift o) a b = record { left = promoted_type a.type; right = promoted_type b.type }
operand_types Sum a b = usual_types a b (own_types a b)
operand_types Difference a b = usual_types a b (own_types a b)
operand_types (Order o) a b = usual_types a b (own_types a b)
operand_types (Equality o) a b = usual_types a b (compared_types a b)

-- a pointer moves by its right operand (C99 6.5.6, 8)
abbrev pub is_move : Typing → Typing → Bool
is_move a b = is_pointer a.type && is_integer b.type

abbrev pub moves_by_right : BinaryRow → Typing → Typing → Bool
moves_by_right (Logical decides) a b = false
moves_by_right (Integers o) a b = false
moves_by_right (Shift o) a b = false
moves_by_right Sum a b = is_move a b
moves_by_right Difference a b = is_move a b
moves_by_right (Order o) a b = false
moves_by_right (Equality o) a b = false

-- ---- ++ and --

abbrev usual_with_int : Option Kind → Ty → Ty
usual_with_int None t = t
usual_with_int (Some k) t = Int (usual k kind.Int)

-- they compute as `place += 1` does (C99 6.5.2.4, 2; 6.5.3.1, 2): a pointer at its own type, an
-- integer at the usual one with int
abbrev pub step_type : Ty → Ty
step_type t = usual_with_int (kind_of t) t
