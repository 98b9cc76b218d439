-- Pointers into objects: how they move, and when two are equal (C99 6.5.6, 6.5.8, 6.5.9).
use Rattle.std.specs.Prelude.{ℕ, ◌+◌, ◌-◌, Bool, ◌&&◌, List, [], ◌∷◌, ◌++◌, length, take, Option, None, Some, option_and_then, if◌then◌else◌, nat_eq, nat_lt, ℤ, pos, ◌+ℤ◌, int_le, unsigned_abs}
use Rattle.std.specs.Option.{option_map, option_map_or, option_eq}
use Rattle.lk_types.specs.Table.{Table}
use Rattle.lk_types.specs.declared.c_type.CType.{CType}
use Rattle.lk_cells.specs.Parts.{form_of, elements_of, members_in, part_at, type_along}
use Rattle.lk_values.specs.Paths.{is_path, last_index, above, element_path}
use Rattle.lk_base.specs.Steps.{number_of}
use Rattle.lk_values.specs.Pointers.{pointer_to, pointer_past, position_of}
use Rattle.lk_values.specs.declared.cell.Cell.{Cell}
use Rattle.lk_values.specs.declared.cell.Pointer.{Pointer}
use Rattle.lk_cells.specs.declared.object.Object.{Object}
use Rattle.lk_base.specs.declared.cell.CellStep.{CellStep}
use Rattle.lk_base.specs.declared.cell.CellStep.TheVariants.{Field, Index}

-- The array that a pointer points into: that of the element that it points to or one past. A part that is no
-- element counts as an array of one (C99 6.5.6, 7).

-- how many elements the array at a path has, none where there is no array
abbrev pub count_at : Table → Object → List CellStep → ℕ
count_at table object path =
    option_map_or (λ elements. elements.count)
    (option_and_then (elements_of object.length) (option_and_then (form_of table) (type_along table object.length path object.ty))) 0

-- how many elements the array of the part has
abbrev pub room_of : Table → Object → List CellStep → ℕ
room_of table object path = option_map_or (λ i. count_at table object (above path)) (last_index path) 1

-- the pointer into the array of the part, which has `room` elements, that stands at a position
abbrev pub standing_at : Cell → ℕ → ℕ → Pointer
standing_at part room position =
    if nat_lt position room then pointer_to part.object (element_path part.path position)
    else pointer_past part.object (element_path part.path (room - 1))

-- a position moved by a number of elements, where it then is that of an element or the one after the last
abbrev pub moved_position : ℕ → ℕ → ℤ → Option ℕ
moved_position position room by =
    if int_le (pos 0) (pos position +ℤ by) && int_le (pos position +ℤ by) (pos room)
    then Some (unsigned_abs (pos position +ℤ by)) else None

-- the pointer moved by a number of elements, where it then points to an element or one
-- past the last (C99 6.5.6, 8)
abbrev pub moved : Table → Object → Pointer → ℤ → Option Pointer
moved table object pointer by =
    option_map (standing_at pointer.part (room_of table object pointer.part.path))
    (moved_position (position_of pointer) (room_of table object pointer.part.path) by)

-- Where a pointer stands in its object: two pointers into it are equal exactly where they stand at one place.
-- A first part stands where the whole does; one past a part stands where the part after it does, and at the
-- object's end where there is none after it (C99 6.5.9, 6).

-- the part that stands directly after one, by the form of what both are parts of;
-- members have numbers of 32 bits
abbrev pub next_step : Table → ℕ → CType → CellStep → Option CellStep
next_step table own form (Field k) = if nat_lt (k + 1) (length (members_in table form)) && nat_lt k 4294967295
    then Some (Field (k + 1)) else None
next_step table own form (Index i) =
    if nat_lt (i + 1) (option_map_or (λ elements. elements.count) (elements_of own form) 0)
    then Some (Index (i + 1)) else None

-- a step before a path that goes on from it, where there is one; else the next step, where
-- there is one, before these others
abbrev pub on_or_next : CellStep → Option CellStep → List CellStep → Option (List CellStep) →
    Option (List CellStep)
on_or_next step next others (Some path) = Some (step ∷ path)
on_or_next step next others None = option_map (λ s. s ∷ others) next

-- the path to the part of an object that stands directly after the part at a path, where there is one
abbrev pub path_after : Table → ℕ → List CellStep → ℕ → Option (List CellStep)
path_after table own [] t = None
path_after table own (step ∷ path) t =
    on_or_next step (option_and_then (λ form. next_step table own form step) (form_of table t)) []
    (option_and_then (λ u. path_after table own path u) (part_at table own t step))

-- the path with another step in the place of one of its steps, and nothing after it
abbrev pub path_turned : List CellStep → Option (ℕ × CellStep) → Option (List CellStep)
path_turned path found = option_map (λ turn. take turn.0 path ++ turn.1 ∷ []) found

-- a step before the rest of a path; none where the rest is none and the step leads to a first part
abbrev pub before : CellStep → List CellStep → List CellStep
before step [] = if nat_eq (number_of step) 0 then [] else step ∷ []
before step (next ∷ path) = step ∷ next ∷ path

-- the path to the largest part that stands where the part at a path does
abbrev pub whole_at : List CellStep → List CellStep
whole_at [] = []
whole_at (step ∷ path) = before step (whole_at path)

-- where a pointer stands in its object: at a part of it, or at its end
abbrev pub stand_of : Table → Object → Pointer → Option (List CellStep)
stand_of table object pointer =
    if pointer.past then option_map whole_at (path_after table object.length pointer.part.path object.ty)
    else Some (whole_at pointer.part.path)

-- whether two pointers into one object are equal
abbrev pub is_same_place : Table → Object → Pointer → Pointer → Bool
is_same_place table object p q = option_eq is_path (stand_of table object p) (stand_of table object q)
