-- What operators give of values: a value, or the cause by which C calls them undefined; nothing for operands
-- that they don't take (C99 6.5.3.3, 6.5.5 to 6.5.14).
use Rattle.std.specs.Prelude.{ℕ, Bool, true, false, not, Option, None, Some, Result, Ok, Err, slice_get, option_and_then, if◌then◌else◌, nat_eq, ◌&&◌, ◌||◌, ℤ, pos, neg_ℤ, ◌-ℤ◌, int_lt, int_le}
use Rattle.std.specs.Option.{option_map_or}
use Rattle.lk_arith.specs.Conversions.{truth}
use Rattle.lk_arith.specs.Kinds.{is_value}
use Rattle.lk_arith.specs.Operators as arith
use Rattle.lk_arith.specs.declared.operators.Op.{Op}
use Rattle.lk_arith.specs.declared.operators.Op.TheVariants as op
use Rattle.lk_arith.specs.declared.operators.UnaryOp.{UnaryOp}
use Rattle.lk_arith.specs.declared.operators.UnaryOp.TheVariants as unary
use Rattle.lk_arith.specs.declared.operators.Undefined.{Undefined}
use Rattle.lk_arith.specs.declared.operators.Undefined.TheVariants as integer
use Rattle.lk_base.specs.declared.kind.Kind.{Kind}
use Rattle.lk_base.specs.declared.kind.Kind.TheVariants as kind
use Rattle.lk_cells.specs.Moves as moves
use Rattle.lk_values.specs.Pointers as pointers
use Rattle.lk_values.specs.declared.cell.Pointer.{Pointer as PointerTo}
use Rattle.lk_cells.specs.declared.state.State.{State}
use Rattle.lk_values.specs.declared.value.Value.{Value}
use Rattle.lk_values.specs.declared.value.Value.TheVariants.{Number, Pointer, Function, Null, Thread, Indeterminate}
use Rattle.lk_cells.specs.Places.{moved_by}
use Rattle.lk_values.specs.declared.why.Why.{Why}
use Rattle.lk_values.specs.declared.why.Why.TheVariants as why
use Rattle.lk_types.specs.Table.{Table}

-- the cause by which C calls an operation on integers undefined
abbrev pub why_of : Undefined → Why
why_of integer.Overflow = why.Overflow
why_of integer.DivideByZero = why.DivideByZero
why_of integer.Shift = why.Shift

-- what computing comes to, where the operands are ones that it takes
abbrev pub Computed : Type 0
Computed = Option (Result Value Why)

abbrev pub gives : Value → Computed
gives v = Some (Ok v)

abbrev pub undefined_by : Why → Computed
undefined_by cause = Some (Err cause)

-- an integer result at a kind
abbrev pub of_kind : Kind → arith.Outcome → Computed
of_kind k (Ok n) = gives (Number k n)
of_kind k (Err cause) = undefined_by (why_of cause)

-- 1 for what holds, else 0, as an int (C99 6.5.8, 6; 6.5.9, 3)
abbrev pub tells : Bool → Computed
tells b = gives (Number kind.Int (truth b))

-- a pointer, or Outside where there is none
abbrev pub points : Option PointerTo → Computed
points None = undefined_by why.Outside
points (Some p) = gives (Pointer p)

-- two numbers, of which the first has its kind and, but for a shift, the second one has
-- it too (C99 6.5.5 to 6.5.12)
abbrev pub of_numbers : Op → Kind → ℤ → ℤ → Computed
of_numbers o k a b =
    if is_value k a && (arith.is_shift o || is_value k b)
    then of_kind (arith.result_kind o k) (arith.outcome o k a b) else None

-- two addresses, of which it is known whether they are equal, and by how many elements the first stands after
-- the second where they point into one array (C99 6.5.6, 9; 6.5.8, 5; 6.5.9, 6)
abbrev pub by_distance : Option ℤ → (ℤ → Computed) → Computed
by_distance None result = undefined_by why.Outside
by_distance (Some distance) result = result distance

abbrev pub of_addresses : Op → Bool → Option ℤ → Computed
of_addresses op.Multiply same distance = None
of_addresses op.Divide same distance = None
of_addresses op.Remainder same distance = None
of_addresses op.Add same distance = None
of_addresses op.Subtract same distance = by_distance distance (λ d. gives (Number kind.Long d))
of_addresses op.ShiftLeft same distance = None
of_addresses op.ShiftRight same distance = None
of_addresses op.Less same distance = by_distance distance (λ d. tells (int_lt d (pos 0)))
of_addresses op.Greater same distance = by_distance distance (λ d. tells (int_lt (pos 0) d))
of_addresses op.LessOrEqual same distance = by_distance distance (λ d. tells (int_le d (pos 0)))
of_addresses op.GreaterOrEqual same distance = by_distance distance (λ d. tells (int_le (pos 0) d))
of_addresses op.Equal same distance = tells same
of_addresses op.NotEqual same distance = tells (not same)
of_addresses op.And same distance = None
of_addresses op.Xor same distance = None
of_addresses op.Or same distance = None

-- by how many elements an operator with this number on its right moves a pointer (C99 6.5.6, 8)
abbrev pub amount : Op → ℤ → Option ℤ
amount op.Multiply n = None
amount op.Divide n = None
amount op.Remainder n = None
amount op.Add n = Some n
amount op.Subtract n = Some (neg_ℤ n)
amount op.ShiftLeft n = None
amount op.ShiftRight n = None
amount op.Less n = None
amount op.Greater n = None
amount op.LessOrEqual n = None
amount op.GreaterOrEqual n = None
amount op.Equal n = None
amount op.NotEqual n = None
amount op.And n = None
amount op.Xor n = None
amount op.Or n = None

-- the number on the right, where it is one of its kind
abbrev pub amount_of : Op → Kind → ℤ → Option ℤ
amount_of o k n = if is_value k n then amount o n else None

-- a binary operator, by its left operand and then its right one
abbrev pub with_number : Op → Kind → ℤ → Value → Computed
with_number o k a (Number j b) = of_numbers o k a b
with_number o k a (Pointer q) = None
with_number o k a (Function g) = None
with_number o k a Null = None
with_number o k a (Thread u) = None
with_number o k a Indeterminate = None

abbrev pub with_function : Op → ℕ → Value → Computed
with_function o f (Number j b) = None
with_function o f (Pointer q) = of_addresses o false None
with_function o f (Function g) = of_addresses o (nat_eq f g) None
with_function o f Null = of_addresses o false None
with_function o f (Thread u) = None
with_function o f Indeterminate = None

abbrev pub with_null : Op → Value → Computed
with_null o (Number j b) = option_and_then (λ n. undefined_by why.Outside) (amount_of o j b)
with_null o (Pointer q) = of_addresses o false None
with_null o (Function g) = of_addresses o false None
with_null o Null = of_addresses o true None
with_null o (Thread u) = None
with_null o Indeterminate = None

-- a unary operator of an address: `!` tells whether it is null (C99 6.5.3.3, 5)
abbrev pub of_address : UnaryOp → Bool → Computed
of_address unary.Plus is_null = None
of_address unary.Negate is_null = None
of_address unary.Complement is_null = None
of_address unary.Not is_null = tells is_null

abbrev pub unary_of : UnaryOp → Value → Computed
unary_of o (Number k a) =
    if is_value k a then of_kind (arith.unary_kind o k) (arith.unary_outcome o k a) else None
unary_of o (Pointer p) = of_address o false
unary_of o (Function f) = of_address o false
unary_of o Null = of_address o true
unary_of o (Thread t) = None
unary_of o Indeterminate = None

module _ (table : Table) (s : State) where
  -- whether two pointers to parts of objects are equal (C99 6.5.9, 6)
  abbrev pub is_equal : PointerTo → PointerTo → Bool
  is_equal p q =
      nat_eq p.part.object q.part.object
      && option_map_or (λ object. moves.is_same_place table object p q)
      (slice_get s.objects p.part.object) false

  -- by how many elements p stands after q, where they point into one array (C99 6.5.6, 9)
  abbrev pub distance : PointerTo → PointerTo → Option ℤ
  distance p q =
      if pointers.is_same_array p q
      then Some (pos (pointers.position_of p) -ℤ pos (pointers.position_of q)) else None

  abbrev pub with_pointer : Op → PointerTo → Value → Computed
  with_pointer o p (Number j b) = option_and_then (λ n. points (moved_by table s p n)) (amount_of o j b)
  with_pointer o p (Pointer q) = of_addresses o (is_equal p q) (distance p q)
  with_pointer o p (Function g) = of_addresses o false None
  with_pointer o p Null = of_addresses o false None
  with_pointer o p (Thread u) = None
  with_pointer o p Indeterminate = None

  abbrev pub binary : Op → Value → Value → Computed
  binary o (Number k a) y = with_number o k a y
  binary o (Pointer p) y = with_pointer o p y
  binary o (Function f) y = with_function o f y
  binary o Null y = with_null o y
  binary o (Thread t) y = None
  binary o Indeterminate y = None
