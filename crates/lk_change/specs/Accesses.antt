-- What is read from cells and slots, and put into them (C99 6.5.16.1, 7.19.7.10, 7.20.1.2).
use Rattle.std.specs.Prelude.{ℕ, Option, Some, option_and_then, if◌then◌else◌, pos}
use Rattle.std.specs.Option.{option_map}
use Rattle.std.specs.Ordering.{int_eq}
use Rattle.lk_facts.specs.Program.{value_type_at}
use Rattle.lk_facts.specs.declared.program.Program.{Program}
use Rattle.lk_values.specs.declared.cell.Pointer.{Pointer as PointerTo}
use Rattle.lk_cells.specs.declared.state.State.{State}
use Rattle.lk_cells.specs.declared.state.Thread.{Thread}
use Rattle.lk_values.specs.declared.value.Value.{Value}
use Rattle.lk_values.specs.declared.value.Value.TheVariants.{Thread as Id}
use Rattle.lk_cells.specs.Operands.{operand, number_in, pointer_in}
use Rattle.lk_cells.specs.Places as places
use Rattle.lk_change.specs.declared.change.Change.{Change}
use Rattle.lk_change.specs.declared.change.Effect.{Effect}
use Rattle.lk_change.specs.declared.change.Effect.TheVariants as effect
use Rattle.lk_change.specs.Going.{goes, changes, stays_on}
use Rattle.lk_change.specs.Numbers.{by_word}

-- puts a value into the cell that a pointer leads to (C99 6.5.16.1)
abbrev pub value_put : State → Option Value → Option Value → Option Effect
value_put s place v = option_and_then (λ c. option_map (effect.PutValue c) v) (places.part_of s place)

-- puts a value into a slot of the frame
abbrev pub slot_put : Program → ℕ → ℕ → Option Value → Option Change
slot_put program p slot v = changes program p (option_map (effect.PutSlot slot) v)

-- reads a character of a text, and stays with the next one; after the zero it goes
-- on (C99 7.19.7.10, 7.20.1.2)
abbrev pub scans_on : Program → State → PointerTo → Option Change
scans_on program s at =
    option_and_then (λ next. stays_on next effect.Nothing) (places.moved_by program.types s at (pos 1))

abbrev pub scans : Program → State → ℕ → ℕ → Option Value → Option Change
scans program s p w v =
    option_and_then (λ n. if int_eq n (pos 0) then goes program p 0
    (by_word program w (value_type_at program p)) effect.Nothing
    else option_and_then (scans_on program s) (pointer_in v))
    (number_in (places.value_through program.types s v))

-- writes a value into a cell (C99 6.5.16.1); or the id of the thread that the frame
-- made last (POSIX pthread_create)
abbrev pub writes : Program → State → Thread → ℕ → ℕ → Option Change
writes program s thread a b =
    changes program thread.frame.point (value_put s (operand thread a) (operand thread b))

abbrev pub stores_id : Program → State → Thread → ℕ → Option Change
stores_id program s thread a =
    changes program thread.frame.point (value_put s (operand thread a) (Some (Id thread.frame.created)))
