-- What the steps inside the operators ask and give.
use Rattle.std.specs.Prelude.{ℕ, ◌^◌, Bool, ◌&&◌, ◌||◌, if◌then◌else◌, Result, Ok, Err, ℤ, pos, int_le, unsigned_abs}
use Rattle.lk_base.specs.declared.kind.Kind.{Kind}
use Rattle.lk_arith.specs.declared.operators.Undefined.{Undefined}
use Rattle.lk_arith.specs.declared.operators.Undefined.TheVariants.{Shift}
use Rattle.lk_arith.specs.Kinds.{is_value}
use Rattle.lk_arith.specs.Operators.{is_count}

-- whether a value is multiplied by it: a value, or a power of two of at most 63 places
abbrev pub is_factor : Kind → ℤ → Bool
is_factor k b = is_value k b || (int_le (pos 0) b && int_le b (pos (2 ^ 63)))

-- the number of places of a shift, where it is in range
abbrev pub places : Kind → ℤ → Result ℕ Undefined
places k b = if is_count k b then Ok (unsigned_abs b) else Err Shift
