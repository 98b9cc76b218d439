-- The values of operands, and when they may be used (C99 6.2.4, 6.9.1, J.2).
use Rattle.std.specs.Prelude.{ℕ, Bool, true, false, not, List, [], ◌∷◌, fold, Option, None, Some, ℤ, pos}
use Rattle.std.specs.Option.{option_map, option_map_or}
use Rattle.std.specs.Ordering.{int_eq}
use Rattle.lk_cells.specs.Frames.{given_by}
use Rattle.lk_cells.specs.declared.state.Thread.{Thread}
use Rattle.lk_values.specs.declared.cell.Pointer.{Pointer as PointerTo}
use Rattle.lk_values.specs.declared.value.Value.{Value}
use Rattle.lk_values.specs.declared.value.Value.TheVariants.{Number, Pointer, Function, Null, Thread as Id, Indeterminate}
use Rattle.lk_values.specs.Causes.{◌or◌, ◌when◌, never}
use Rattle.lk_values.specs.declared.why.Why.{Why}
use Rattle.lk_values.specs.declared.why.Why.TheVariants as why

-- whether a value is indeterminate
abbrev pub is_indeterminate : Option Value → Bool
is_indeterminate None = false
is_indeterminate (Some (Number k n)) = false
is_indeterminate (Some (Pointer p)) = false
is_indeterminate (Some (Function f)) = false
is_indeterminate (Some Null) = false
is_indeterminate (Some (Id t)) = false
is_indeterminate (Some Indeterminate) = true

-- a value is there (C99 6.9.1, 12)
abbrev pub given : Option Value → Option Why
given None = Some why.NoValue
given (Some v) = never

-- a value is used: it is there, and isn't indeterminate (C99 J.2)
abbrev pub used : Option Value → Option Why
used v = given v or why.Indeterminate when is_indeterminate v

-- values are used
abbrev pub all_used : List (Option Value) → Option Why
all_used vs = fold (λ cause v. cause or used v) never vs

-- values that are all there
abbrev pub all_given : List (Option Value) → Option (List Value)
all_given [] = Some []
all_given (None ∷ vs) = None
all_given (Some v ∷ vs) = option_map (λ rest. v ∷ rest) (all_given vs)

-- the number that a value is
abbrev pub number_in : Option Value → Option ℤ
number_in None = None
number_in (Some (Number k n)) = Some n
number_in (Some (Pointer p)) = None
number_in (Some (Function f)) = None
number_in (Some Null) = None
number_in (Some (Id t)) = None
number_in (Some Indeterminate) = None

-- the pointer to a part of an object that a value is
abbrev pub pointer_in : Option Value → Option PointerTo
pointer_in None = None
pointer_in (Some (Number k n)) = None
pointer_in (Some (Pointer p)) = Some p
pointer_in (Some (Function f)) = None
pointer_in (Some Null) = None
pointer_in (Some (Id t)) = None
pointer_in (Some Indeterminate) = None

-- the number of the function that a value points to
abbrev pub function_in : Option Value → Option ℕ
function_in None = None
function_in (Some (Number k n)) = None
function_in (Some (Pointer p)) = None
function_in (Some (Function f)) = Some f
function_in (Some Null) = None
function_in (Some (Id t)) = None
function_in (Some Indeterminate) = None

-- the thread id that a value is
abbrev pub id_in : Option Value → Option (Option ℕ)
id_in None = None
id_in (Some (Number k n)) = None
id_in (Some (Pointer p)) = None
id_in (Some (Function f)) = None
id_in (Some Null) = None
id_in (Some (Id t)) = Some t
id_in (Some Indeterminate) = None

-- whether a value counts as true in a condition: it is neither zero nor null (C99 6.8.4.1, 6.5.13)
abbrev pub condition_in : Option Value → Option Bool
condition_in None = None
condition_in (Some (Number k n)) = Some (not (int_eq n (pos 0)))
condition_in (Some (Pointer p)) = Some true
condition_in (Some (Function f)) = Some true
condition_in (Some Null) = Some false
condition_in (Some (Id t)) = None
condition_in (Some Indeterminate) = None

-- the value of an operand, where its point gave one
abbrev pub operand : Thread → ℕ → Option Value
operand thread a = given_by thread.frame a

-- the pointer with which a point that goes from cell to cell stands: to the next
-- cell, or at first its operand
abbrev pub current : Thread → ℕ → Option Value
current thread a = option_map_or (λ p. Some (Pointer p)) thread.frame.next_cell (operand thread a)
