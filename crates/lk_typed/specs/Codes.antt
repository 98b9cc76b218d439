-- The code that is told where several hold at one node.
use Rattle.std.specs.Prelude.{Bool, Option, Some, None, List, [], ◌∷◌, nat_lt, if◌then◌else◌}
use Rattle.lk_base.specs.declared.code.Code.{Code}
use Rattle.lk_base.specs.declared.code.Code.TheVariants.{IntPointerCast, PointerCast, StructValue, MutexValue, Mismatch}
use Rattle.lk_base.specs.Code.{number_of}

-- the one of the lesser number, of those that are there
abbrev pub lesser : Option Code → Option Code → Option Code
lesser None b = b
lesser (Some a) None = Some a
lesser (Some a) (Some b) = Some (if nat_lt (number_of b) (number_of a) then b else a)

-- the one of the least number
abbrev pub least_code : List Code → Option Code
least_code [] = None
least_code (code ∷ others) = lesser (Some code) (least_code others)

-- the code that names a conversion, or else 22
abbrev pub named_code : Bool → Bool → Bool → Bool → Code
named_code integer_and_pointer different_pointers of_struct of_lock =
    if integer_and_pointer then IntPointerCast
    else if different_pointers then PointerCast
    else if of_struct then StructValue
    else if of_lock then MutexValue
    else Mismatch

-- the code of an operand, by whether it is a mutex or condition variable, and whether
-- it is of a type that is taken
abbrev pub operand_code : Bool → Bool → Option Code
operand_code is_lock is_taken = if is_lock then Some MutexValue else if is_taken then None else Some Mismatch

-- a code, unless something is there
abbrev pub code_unless : Bool → Code → Option Code
code_unless exists code = if exists then None else Some code

-- the code of the arms of ?:, by whether one is a mutex or condition variable, and whether a line takes them
abbrev pub arm_code : Bool → Bool → Option Code
arm_code has_lock taken = if taken then None else if has_lock then Some MutexValue else Some Mismatch

-- a code, or else that of a rule behind it
abbrev pub or_behind : Option Code → Option Code → Option Code
or_behind None behind = behind
or_behind (Some code) behind = Some code
