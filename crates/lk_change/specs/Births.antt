-- How objects are allocated and freed (C99 7.20.3).
use Rattle.std.specs.Prelude.{ℕ, Bool, true, false, List, [], ◌∷◌, length, Option, None, Some, option_and_then, if◌then◌else◌, nat_eq, ◌||◌, ℤ, unsigned_abs}
use Rattle.lk_arith.specs.Kinds.{is_value}
use Rattle.lk_base.specs.declared.kind.Kind.TheVariants as kind
use Rattle.lk_facts.specs.declared.program.Program.{Program}
use Rattle.lk_values.specs.Pointers as pointers
use Rattle.lk_cells.specs.declared.object.Initial.{Initial}
use Rattle.lk_cells.specs.declared.object.Initial.TheVariants as initial
use Rattle.lk_base.specs.declared.cell.CellStep.{CellStep}
use Rattle.lk_base.specs.declared.cell.CellStep.TheVariants.{Index}
use Rattle.lk_cells.specs.declared.state.State.{State}
use Rattle.lk_cells.specs.declared.state.Thread.{Thread}
use Rattle.lk_values.specs.declared.value.Value.{Value}
use Rattle.lk_values.specs.declared.value.Value.TheVariants.{Number, Pointer, Function, Null, Thread as Id, Indeterminate}
use Rattle.lk_cells.specs.Operands.{operand, number_in}
use Rattle.lk_change.specs.declared.change.Change.{Change}
use Rattle.lk_change.specs.declared.change.Effect.TheVariants as effect
use Rattle.lk_change.specs.Going.{goes, gives, changes}

-- what an allocated object begins with: all bits zero, or nothing (C99 7.20.3.1, 7.20.3.3)
abbrev pub first_of : Bool → Initial
first_of true = initial.Zero
first_of false = initial.Indeterminate

-- makes an object with so many elements, and gives the pointer to a part of it: to the object itself, or to
-- the first of several; null by the word, and for no elements (C99 7.20.3)
abbrev pub bears : Program → State → ℕ → ℕ → Bool → ℕ → List CellStep → Option Change
bears program s p r zero n path =
    goes program p 0 (Some (Pointer (pointers.pointer_to (length s.objects) path)))
    (effect.Bear (record { root = r; length = n; initial = first_of zero }))

abbrev pub allocates : Program → State → ℕ → ℕ → ℕ → Bool → ℕ → List CellStep → Option Change
allocates program s p w r zero n path =
    if nat_eq w 0 || nat_eq n 0 then gives program p (Some Null) else bears program s p r zero n path

-- so many elements as a size tells (C99 7.20.3)
abbrev pub count_of : ℤ → Option ℕ
count_of n = if is_value kind.ULong n then Some (unsigned_abs n) else None

abbrev pub allocates_many : Program → State → ℕ → ℕ → ℕ → Bool → Option Value → Option Change
allocates_many program s p w r zero v =
    option_and_then (λ n. allocates program s p w r zero n (Index 0 ∷ []))
    (option_and_then count_of (number_in v))

-- one object, or as many elements as an operand says (C99 7.20.3)
abbrev pub allocates_by : Program → State → Thread → ℕ → ℕ → Bool → Option ℕ → Option Change
allocates_by program s thread w r zero None = allocates program s thread.frame.point w r zero 1 []
allocates_by program s thread w r zero (Some a) =
    allocates_many program s thread.frame.point w r zero (operand thread a)

-- frees the object of a pointer, and does nothing on null (C99 7.20.3.2)
abbrev pub frees : Program → ℕ → Option Value → Option Change
frees program p None = None
frees program p (Some (Number k n)) = None
frees program p (Some (Pointer at)) = changes program p (Some (effect.End at.part.object))
frees program p (Some (Function f)) = None
frees program p (Some Null) = changes program p (Some effect.Nothing)
frees program p (Some (Id u)) = None
frees program p (Some Indeterminate) = None
