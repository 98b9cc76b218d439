-- How the parts of an object that an initialiser does not name are filled, cell by
-- cell (C99 6.7.8, 10, 17 and 21).
use Rattle.std.specs.Prelude.{ℕ, ◌+◌, ◌++◌, take, drop, Bool, List, [], ◌∷◌, map, Option, None, Some, slice_get, option_and_then, if◌then◌else◌, nat_lt}
use Rattle.std.specs.List.{list_any}
use Rattle.std.specs.Option.{option_map, option_map_or}
use Rattle.lk_facts.specs.declared.program.Program.{Program}
use Rattle.lk_types.specs.Table.{Table}
use Rattle.lk_types.specs.declared.c_type.CType.{CType}
use Rattle.lk_cells.specs.Cells.{zero_of}
use Rattle.lk_cells.specs.Moves.{on_or_next}
use Rattle.lk_cells.specs.Parts.{form_of, elements_of, part_at}
use Rattle.lk_values.specs.Paths.{is_path}
use Rattle.lk_values.specs.Pointers as pointers
use Rattle.lk_values.specs.declared.cell.Cell.{Cell}
use Rattle.lk_values.specs.declared.cell.Pointer.{Pointer as PointerTo}
use Rattle.lk_cells.specs.declared.kind.CellKind.{CellKind}
use Rattle.lk_cells.specs.declared.kind.CellKind.TheVariants as cell
use Rattle.lk_base.specs.declared.cell.CellStep.{CellStep}
use Rattle.lk_base.specs.declared.cell.CellStep.TheVariants.{Field, Index}
use Rattle.lk_cells.specs.declared.state.State.{State}
use Rattle.lk_values.specs.declared.value.Condition.TheVariants as condition
use Rattle.lk_values.specs.declared.value.Mutex.TheVariants as mutex
use Rattle.lk_values.specs.declared.value.Value.{Value}
use Rattle.lk_cells.specs.Places as places
use Rattle.lk_change.specs.declared.change.Change.{Change}
use Rattle.lk_change.specs.declared.change.Effect.{Effect}
use Rattle.lk_change.specs.declared.change.Effect.TheVariants as effect
use Rattle.lk_change.specs.Going.{changes, stays_on}

-- the path with each index 0
abbrev pub first_index : CellStep → CellStep
first_index (Field k) = Field k
first_index (Index i) = Index 0

-- the step to the next element, where there is one
abbrev pub next_index : ℕ → CType → CellStep → Option CellStep
next_index own form (Field k) = None
next_index own form (Index i) =
    if nat_lt (i + 1) (option_map_or (λ elements. elements.count) (elements_of own form) 0)
    then Some (Index (i + 1)) else None

-- the same from a type
abbrev pub index_after : Table → ℕ → ℕ → CellStep → Option CellStep
index_after table own t step = option_and_then (λ form. next_index own form step) (form_of table t)

-- the next path of the same place, with indices counted up: that of the same members, and the
-- next element (C99 6.7.8, 17)
abbrev pub next_path : Table → ℕ → List CellStep → ℕ → Option (List CellStep)
next_path table own [] t = None
next_path table own (step ∷ path) t =
    on_or_next step (index_after table own t step) (map first_index path)
    (option_and_then (λ u. next_path table own path u) (part_at table own t step))

-- the path with another step in the place of one of its steps, and after it the first elements
abbrev pub path_counted : List CellStep → Option (ℕ × CellStep) → Option (List CellStep)
path_counted path found =
    option_map (λ turn. take turn.0 path ++ turn.1 ∷ map first_index (drop (turn.0 + 1) path)) found

-- whether a path is named
abbrev pub is_named : List (List CellStep) → List CellStep → Bool
is_named named path = list_any (λ steps. is_path steps path) named

-- the next path of the place that isn't named, where each number of a list stands for one
-- more named path to pass over
abbrev pub next_absent : Table → ℕ → ℕ → List (List CellStep) → List (List CellStep) → List CellStep →
    Option (List CellStep)
next_absent table own t named [] path = next_path table own path t
next_absent table own t named (one ∷ more) path =
    option_and_then (λ next. if is_named named next then next_absent table own t named more next else Some
    next) (next_path table own path t)

-- fills a cell: zero or null, or ready and free (C99 6.7.8, 10 and 21)
abbrev pub filled_of_kind : Option Value → Cell → CellKind → Option Effect
filled_of_kind zero c cell.Value = option_map (effect.PutValue c) zero
filled_of_kind zero c cell.Mutex = Some (effect.PutMutex c mutex.Free)
filled_of_kind zero c cell.Condition = Some (effect.PutCondition c condition.Ready)

module _ (program : Program) (s : State) where
  abbrev pub filled : Option Value → Option Effect
  filled v =
      option_and_then (λ c. option_and_then
      (filled_of_kind (option_and_then zero_of (places.form_through program.types s v)) c)
      (places.kind_through program.types s v)) (places.part_of s v)

  -- the pointer to the next absent cell of the place
  abbrev pub absent_after : List (List CellStep) → Cell → Option PointerTo
  absent_after named c =
      option_and_then (λ object. option_map (pointers.pointer_to c.object)
      (next_absent program.types object.length object.ty named named c.path))
      (slice_get s.objects c.object)

  abbrev pub absent_through : List (List CellStep) → Option Value → Option PointerTo
  absent_through named v = option_and_then (absent_after named) (places.part_of s v)

  -- fills a cell, and stays with the next absent one, or goes on where none is left
  abbrev pub fills : ℕ → List (List CellStep) → Option Value → Option Change
  fills p named v =
      option_and_then (λ changed. option_map_or (λ next. stays_on next changed) (absent_through named v)
      (changes program p (Some changed))) (filled v)
