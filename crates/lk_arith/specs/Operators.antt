-- What the operators of C compute at an integer kind, and where they are undefined (C99 6.5).
use Rattle.std.specs.Prelude.{ℕ, ◌^◌, Bool, true, false, not, ◌&&◌, ◌||◌, if◌then◌else◌, Result, Ok, Err, ℤ, pos, neg_ℤ, ◌+ℤ◌, ◌-ℤ◌, ◌*ℤ◌, int_le, int_lt, int_div, int_rem, unsigned_abs, bit_and, bit_or, bit_xor}
use Rattle.std.specs.Int.{int_div_euclid}
use Rattle.std.specs.Ordering.{int_eq}
use Rattle.lk_base.specs.declared.kind.Kind.{Kind}
use Rattle.lk_base.specs.declared.kind.Kind.TheVariants as kind
use Rattle.lk_arith.specs.declared.operators.Op.{Op}
use Rattle.lk_arith.specs.declared.operators.Op.TheVariants as op
use Rattle.lk_arith.specs.declared.operators.UnaryOp.{UnaryOp}
use Rattle.lk_arith.specs.declared.operators.UnaryOp.TheVariants as u
use Rattle.lk_arith.specs.declared.operators.Undefined.{Undefined}
use Rattle.lk_arith.specs.declared.operators.Undefined.TheVariants.{Overflow, DivideByZero, Shift}
use Rattle.lk_arith.specs.Kinds.{width, is_signed, is_value}
use Rattle.lk_arith.specs.Conversions.{truth, is_zero, bits_of, convert}

-- what is defined with this value, or undefined by this cause
abbrev pub Outcome : Type 0
Outcome = Result ℤ Undefined

abbrev pub defined : ℤ → Outcome
defined a = Ok a

abbrev pub undefined_by : Undefined → Outcome
undefined_by cause = Err cause

-- whether it shifts its first operand by its second one (C99 6.5.7)
abbrev pub is_shift : Op → Bool
is_shift op.ShiftLeft = true
is_shift op.ShiftRight = true
is_shift op.Multiply = false
is_shift op.Divide = false
is_shift op.Remainder = false
is_shift op.Add = false
is_shift op.Subtract = false
is_shift op.Less = false
is_shift op.Greater = false
is_shift op.LessOrEqual = false
is_shift op.GreaterOrEqual = false
is_shift op.Equal = false
is_shift op.NotEqual = false
is_shift op.And = false
is_shift op.Xor = false
is_shift op.Or = false

-- whether it may be the second operand beside a value of the kind: a value of it too or, in
-- a shift, any number of places
abbrev pub is_second : Op → Kind → ℤ → Bool
is_second op k b = is_value k b || is_shift op

-- the kind of what it gives, by that of its (first) operand: of a comparison int (C99 6.5.8, 6; 6.5.9, 3)
abbrev pub result_kind : Op → Kind → Kind
result_kind op.Less k = kind.Int
result_kind op.Greater k = kind.Int
result_kind op.LessOrEqual k = kind.Int
result_kind op.GreaterOrEqual k = kind.Int
result_kind op.Equal k = kind.Int
result_kind op.NotEqual k = kind.Int
result_kind op.Multiply k = k
result_kind op.Divide k = k
result_kind op.Remainder k = k
result_kind op.Add k = k
result_kind op.Subtract k = k
result_kind op.ShiftLeft k = k
result_kind op.ShiftRight k = k
result_kind op.And k = k
result_kind op.Xor k = k
result_kind op.Or k = k

-- what an exact result comes to at a kind: a signed kind has it or overflows (C99 6.5, 5), any other
-- one converts it (C99 6.2.5, 9)
unfoldable pub result_at : Kind → ℤ → Outcome
result_at k a = if is_signed k then (if is_value k a then defined a else undefined_by Overflow)
    else defined (convert k a)

-- a quotient or remainder of a and b: b isn't zero, and the quotient is a value of
-- the kind (C99 6.5.5, 5 and 6)
unfoldable pub division : Kind → ℤ → ℤ → ℤ → Outcome
division k a b result =
    if is_zero b then undefined_by DivideByZero
    else if is_value k (int_div a b) then defined result else undefined_by Overflow

-- whether the number of places is in range: from 0 to one below the width (C99 6.5.7, 3)
abbrev pub is_count : Kind → ℤ → Bool
is_count k b = int_le (pos 0) b && int_lt b (pos (width k))

-- the power of two by which a shift of so many places multiplies or divides (C99 6.5.7, 4 and 5)
abbrev pub power : ℤ → ℤ
power b = pos (2 ^ unsigned_abs b)

-- a left shift: the first operand isn't negative, and is multiplied (C99 6.5.7, 4)
unfoldable pub left_shift : Kind → ℤ → ℤ → Outcome
left_shift k a b = if is_count k b && int_le (pos 0) a then result_at k (a *ℤ power b) else undefined_by Shift

-- a right shift: the first operand is divided, rounded down also where it is negative (C99 6.5.7, 5)
unfoldable pub right_shift : Kind → ℤ → ℤ → Outcome
right_shift k a b = if is_count k b then defined (int_div_euclid a (power b)) else undefined_by Shift

-- the value whose bits come from those of both operands, place by place (C99 6.5.10 to 6.5.12)
unfoldable pub bit_by_bit : (ℕ → ℕ → ℕ) → Kind → ℤ → ℤ → Outcome
bit_by_bit f k a b = defined (convert k (pos (f (bits_of k a) (bits_of k b))))

abbrev pub comparison : Bool → Outcome
comparison b = defined (truth b)

-- a binary operator of two values of the kind; of a shift, only the first operand is one
unfoldable pub outcome : Op → Kind → ℤ → ℤ → Outcome
outcome op.Multiply k a b = result_at k (a *ℤ b)  -- C99 6.5.5, 4
outcome op.Divide k a b = division k a b (int_div a b)  -- C99 6.5.5, 6: rounded toward zero
outcome op.Remainder k a b = division k a b (int_rem a b)  -- C99 6.5.5, 6: a less quotient times b
outcome op.Add k a b = result_at k (a +ℤ b)  -- C99 6.5.6, 5
outcome op.Subtract k a b = result_at k (a -ℤ b)  -- C99 6.5.6, 6
outcome op.ShiftLeft k a b = left_shift k a b
outcome op.ShiftRight k a b = right_shift k a b
outcome op.Less k a b = comparison (int_lt a b)  -- C99 6.5.8, 6
outcome op.Greater k a b = comparison (int_lt b a)
outcome op.LessOrEqual k a b = comparison (int_le a b)
outcome op.GreaterOrEqual k a b = comparison (int_le b a)
outcome op.Equal k a b = comparison (int_eq a b)  -- C99 6.5.9, 3
outcome op.NotEqual k a b = comparison (not (int_eq a b))
outcome op.And k a b = bit_by_bit bit_and k a b  -- C99 6.5.10, 4
outcome op.Xor k a b = bit_by_bit bit_xor k a b  -- C99 6.5.11, 4
outcome op.Or k a b = bit_by_bit bit_or k a b  -- C99 6.5.12, 4

-- the kind of what a unary operator gives: of `!` int (C99 6.5.3.3, 5)
abbrev pub unary_kind : UnaryOp → Kind → Kind
unary_kind u.Plus k = k
unary_kind u.Negate k = k
unary_kind u.Complement k = k
unary_kind u.Not k = kind.Int

-- a unary operator of a value of the kind (C99 6.5.3.3); with all bits turned, a is -a - 1
unfoldable pub unary_outcome : UnaryOp → Kind → ℤ → Outcome
unary_outcome u.Plus k a = defined a
unary_outcome u.Negate k a = result_at k (neg_ℤ a)
unary_outcome u.Complement k a = result_at k (neg_ℤ a -ℤ pos 1)
unary_outcome u.Not k a = comparison (is_zero a)
