-- The sizes of arrays.
use Rattle.std.specs.Prelude.{ℕ, ◌≡◌, ◌<◌, ◌≤◌, Bool, true, false, Option, Some, None, MatchOption, ℤ, unsigned_abs}
use Rattle.lk_typed.specs.DeclaratorRules.{Size, most_elements, is_size, has_size}
use Rattle.lk_check_decl.specs.declared.arrays.ArraySize.{ArraySize}
use Rattle.lk_check_decl.specs.declared.arrays.ArraySize.TheVariants.{Absent, Faulty, Written}

abbrev pub size_of : ArraySize → Size
size_of Absent = None
size_of Faulty = Some None
size_of (Written c) = Some (Some c)

-- whether a size is missing, faulty, or a constant in range
abbrev pub is_in_range : ArraySize → Bool
is_in_range size = has_size true None (size_of size)

-- a number, or nothing where it is more than the elements of an array may be
abbrev pub IsCount : ℕ → Option ℕ → Type 0
IsCount n count = MatchOption count (most_elements < n) (λ m. (m ≡ n) × (m ≤ most_elements))

-- a value as the size of an array, or nothing where it is out of range
abbrev pub IsSize : ℤ → Option ℕ → Type 0
IsSize z count = MatchOption count (is_size z ≡ false) (λ n. (is_size z ≡ true) × (unsigned_abs z ≡ n))
