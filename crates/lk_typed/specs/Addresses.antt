-- Address constants: what the operators make of them (C99 6.6, 9; 6.5.6, 7 and 8). An address outside its
-- array and its end is Nowhere; one past the end is accepted.
use Rattle.std.specs.Prelude.{ℕ, Bool, true, false, ◌&&◌, List, [], ◌∷◌, ◌++◌, ℤ, pos, neg_ℤ, ◌+ℤ◌, int_le, unsigned_abs, nat_eq, nat_lt, if◌then◌else◌}
use Rattle.lk_base.specs.declared.cell.CellStep.TheVariants.{Field, Index}
use Rattle.lk_base.specs.declared.cell.CellStep.{CellStep}
use Rattle.lk_typed.specs.DeclaratorRules.{most_elements}
use Rattle.lk_typed.specs.Ty.{Ty, Void, Int, ThreadId, Mutex, Cond, Pointer, Array, Struct, Function, Opaque}
use Rattle.lk_typed.specs.declared.constant.Constant.{Constant}
use Rattle.lk_typed.specs.declared.constant.Constant.TheVariants.{NotConstant, Undefined, Known}
use Rattle.lk_typed.specs.Typing.{Typing, Address, Position, NotAddress, NullAddress, FunctionAddress, Inside, Nowhere, value_of_type}

-- whether a pointer may stand at this index: at an element, or one past the last
abbrev pub is_within : ℤ → ℕ → Bool
is_within index count = int_le (pos 0) index && int_le index (pos count)

-- the steps to a place
abbrev pub steps_to : Position → List CellStep
steps_to position = if position.is_element then position.steps ++ Index position.index ∷ []
    else position.steps

-- a part of a place that is there
abbrev pub part_of : Position → Position → Address
part_of position part = if nat_lt position.index position.count then Inside part else Nowhere

-- the first element of the array at a place, and the member with this number of the struct there
abbrev pub first_element : ℕ → Position → Position
first_element count position =
    record { anchor = position.anchor; steps = steps_to position; is_element = true; index = 0; count = count }

abbrev pub member_at : ℕ → Position → Position
member_at k position =
    record { anchor = position.anchor; steps = steps_to position ++ Field k ∷ []; is_element = false; index = 0; count = 1 }

abbrev pub inside : (Position → Position) → Address → Address
inside part NotAddress = NotAddress
inside part NullAddress = Nowhere
inside part (FunctionAddress n) = Nowhere
inside part (Inside position) = part_of position (part position)
inside part Nowhere = Nowhere

-- how many elements an array type has; one without a size counts as one with the most
-- elements that an array may have
abbrev pub count_of : ℕ → ℕ
count_of n = if nat_eq n 0 then most_elements else n

-- an address with so much added to it
abbrev pub moved_by : ℤ → Address → Address
moved_by n NotAddress = NotAddress
moved_by n NullAddress = Nowhere
moved_by n (FunctionAddress f) = Nowhere
moved_by n (Inside position) =
    if is_within (pos position.index +ℤ n) position.count
    then Inside (record position { index = unsigned_abs (pos position.index +ℤ n) }) else Nowhere
moved_by n Nowhere = Nowhere

-- an address plus an integer constant
abbrev pub moved : Address → Constant → Address
moved address NotConstant = NotAddress
moved address Undefined = Nowhere
moved address (Known n) = moved_by n address

-- an address minus an integer constant
abbrev pub moved_back : Address → Constant → Address
moved_back address NotConstant = NotAddress
moved_back address Undefined = Nowhere
moved_back address (Known n) = moved_by (neg_ℤ n) address

-- ---- the value of an expression where it is no operand of & or sizeof (C99 6.3.2.1, 2 to 4)

-- what a place holds is no constant
abbrev pub read : Typing → Typing
read e = if e.is_place then value_of_type e.type else e

-- an array gives the pointer to its first element, a function the pointer to it, and
-- any other place what it holds
abbrev pub value_at : Ty → Typing → Typing
value_at Void e = read e
value_at (Int k) e = read e
value_at ThreadId e = read e
value_at Mutex e = read e
value_at Cond e = read e
value_at (Pointer t) e = read e
value_at (Array t n) e =
    record {
      type = Pointer t;
      is_place = false;
      constant = NotConstant;
      is_null = false;
      address = inside (first_element (count_of n)) e.address;
    }
value_at (Struct s) e = read e
value_at (Function result params dots) e =
    record { type = Pointer (Function result params dots); is_place = false; constant = NotConstant; is_null = false; address = e.address }
value_at (Opaque n) e = read e

abbrev pub value : Typing → Typing
value e = value_at e.type e
