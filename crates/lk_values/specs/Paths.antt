-- Paths: when two are equal, and how a path ends.
use Rattle.std.specs.Prelude.{ℕ, ◌-◌, Bool, List, [], ◌∷◌, ◌++◌, length, take, Option, None, Some, slice_get}
use Rattle.std.specs.Option.{option_map_or}
use Rattle.std.specs.Cmp.Lexicographic.{pointwise}
use Rattle.lk_base.specs.Steps.{is_step}
use Rattle.lk_base.specs.declared.cell.CellStep.{CellStep}
use Rattle.lk_base.specs.declared.cell.CellStep.TheVariants.{Field, Index}

-- whether two paths are equal
abbrev pub is_path : List CellStep → List CellStep → Bool
is_path a b = pointwise is_step a b

-- the number of the element that a step leads to, where it leads to one
abbrev pub index_of : Option CellStep → Option ℕ
index_of None = None
index_of (Some (Field k)) = None
index_of (Some (Index i)) = Some i

-- the number of the element that a path ends at, where it ends at one
abbrev pub last_index : List CellStep → Option ℕ
last_index path = index_of (slice_get path (length path - 1))

-- a path without its last step
abbrev pub above : List CellStep → List CellStep
above path = take (length path - 1) path

-- the path to the element of this number in the array that a path ends in; the path
-- itself where it ends at no element
abbrev pub element_path : List CellStep → ℕ → List CellStep
element_path path i = option_map_or (λ now. above path ++ Index i ∷ []) (last_index path) path
