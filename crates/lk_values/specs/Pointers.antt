-- Pointers to the parts of objects (C99 6.5.6, 6.5.8).
use Rattle.std.specs.Prelude.{ℕ, ◌+◌, Bool, true, false, ◌&&◌, List, [], ◌∷◌, ◌++◌, unwrap_or, if◌then◌else◌, nat_eq}
use Rattle.lk_values.specs.Paths.{is_path, last_index, element_path}
use Rattle.lk_values.specs.declared.cell.Pointer.{Pointer}
use Rattle.lk_base.specs.declared.cell.CellStep.{CellStep}
use Rattle.lk_base.specs.declared.cell.CellStep.TheVariants.{Field, Index}

-- a pointer to a part
abbrev pub pointer_to : ℕ → List CellStep → Pointer
pointer_to object path = record { part = record { object = object; path = path }; past = false }

-- a pointer one past a part
abbrev pub pointer_past : ℕ → List CellStep → Pointer
pointer_past object path = record { part = record { object = object; path = path }; past = true }

-- at which element of its array a pointer stands; at their number where it is one past the last
abbrev pub position_of : Pointer → ℕ
position_of pointer = unwrap_or (last_index pointer.part.path) 0 + (if pointer.past then 1 else 0)

-- the pointer to the first element of the array that a pointer points to (C99 6.3.2.1, 3)
abbrev pub into_array : Pointer → Pointer
into_array pointer = pointer_to pointer.part.object (pointer.part.path ++ Index 0 ∷ [])

-- the pointer to a member of the struct that a pointer points to (C99 6.5.2.3)
abbrev pub into_member : Pointer → ℕ → Pointer
into_member pointer k = pointer_to pointer.part.object (pointer.part.path ++ Field k ∷ [])

-- whether two pointers point into the same array, or one past its last element (C99 6.5.6, 9; 6.5.8, 5)
abbrev pub is_same_array : Pointer → Pointer → Bool
is_same_array p q =
    nat_eq p.part.object q.part.object && is_path (element_path p.part.path 0) (element_path q.part.path 0)
