-- What the initialiser of an object of static storage must be: an integer constant or an address
-- constant, whatever it converts to (C99 6.6, 7 to 9; 6.7.8, 4). And what a constant must be that a
-- declaration or a `case` asks for (6.6, 6).
use Rattle.std.specs.Prelude.{ℕ, zero, suc, Bool, true, false, not, ◌||◌, ◌++◌, List, [], ◌∷◌, nat_lt, if◌then◌else◌}
use Rattle.lk_base.specs.declared.cell.CellStep.{CellStep}
use Rattle.lk_base.specs.declared.cell.CellStep.TheVariants.{Index}
use Rattle.lk_base.specs.declared.code.Code.{Code}
use Rattle.lk_base.specs.declared.code.Code.TheVariants as code
use Rattle.lk_typed.specs.declared.constant.Constant.{Constant}
use Rattle.lk_typed.specs.declared.constant.Constant.TheVariants.{NotConstant, Undefined, Known}
use Rattle.lk_typed.specs.Typing.{Typing, Address, Position, NotAddress, NullAddress, FunctionAddress, Inside, Nowhere, if_so}
use Rattle.lk_typed.specs.Addresses.{value}

abbrev pub is_known : Constant → Bool
is_known NotConstant = false
is_known Undefined = false
is_known (Known n) = true

abbrev pub is_address : Address → Bool
is_address NotAddress = false
is_address NullAddress = true
is_address (FunctionAddress n) = true
is_address (Inside position) = true
is_address Nowhere = false

abbrev pub is_static_value : Typing → Bool
is_static_value v = is_known v.constant || is_address v.address

-- 24 of a static initialiser that is an expression
abbrev pub static_codes : Typing → List Code
static_codes e = if_so (not (is_static_value (value e))) code.NotConstant

-- 24 of a case or an enumerator's value
abbrev pub constant_codes : Typing → List Code
constant_codes e = if_so (not (is_known e.constant)) code.NotConstant

-- ---- where a pointer of a static initialiser points to: the steps to a part of what has static storage, and whether it is one past that part (C99 6.5.6, 7 and 8)

pub record Reached : Type 0 where
  pub steps : List CellStep
  pub is_past : Bool

abbrev pub element_reached : List CellStep → ℕ → Bool → Reached
element_reached steps zero there = record { steps = steps ++ Index zero ∷ []; is_past = not there }
element_reached steps (suc before) true = record { steps = steps ++ Index (suc before) ∷ []; is_past = false }
element_reached steps (suc before) false = record { steps = steps ++ Index before ∷ []; is_past = true }

abbrev pub reached : Position → Reached
reached position =
    if position.is_element then element_reached position.steps position.index
    (nat_lt position.index position.count)
    else record { steps = position.steps; is_past = not (nat_lt position.index position.count) }
