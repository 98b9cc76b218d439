-- The rows of the table of operators that are used.
use Rattle.std.specs.Prelude.{⊤, IsTrue}
use Rattle.lk_arith.specs.Operators.{is_shift}
use Rattle.lk_typed.specs.declared.binary_row.BinaryRow.{BinaryRow}
use Rattle.lk_typed.specs.declared.binary_row.BinaryRow.TheVariants.{Logical, Integers, Shift, Sum, Difference, Order, Equality}

-- a row of shifts has a shift
abbrev pub IsOfShifts : BinaryRow → Type 0
IsOfShifts (Logical decides) = ⊤
IsOfShifts (Integers op) = ⊤
IsOfShifts (Shift op) = IsTrue (is_shift op)
IsOfShifts Sum = ⊤
IsOfShifts Difference = ⊤
IsOfShifts (Order op) = ⊤
IsOfShifts (Equality op) = ⊤
