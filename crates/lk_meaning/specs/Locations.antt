-- The locations of cells: what cells of one root have in common when indices are
-- forgotten (C99 6.2.4, 6.2.5, 20).
use Rattle.std.specs.Prelude.{◌≡◌, ℕ, Bool, true, false, List, Option, None, Some, slice_get, option_and_then, if◌then◌else◌, MatchOption}
use Rattle.std.specs.Option.{option_map}
use Rattle.lk_base.specs.declared.cell.CellStep.{CellStep}
use Rattle.lk_types.specs.Nodes.{Node, IsNode, node_of, first}
use Rattle.lk_types.specs.declared.node.Base.TheVariants.{Start}
use Rattle.lk_facts.specs.declared.place.Place.{Place}
use Rattle.lk_facts.specs.declared.program.Program.{Program}
use Rattle.lk_facts.specs.declared.root.Root.{Root}
use Rattle.lk_facts.specs.declared.root.RootKind.{RootKind}
use Rattle.lk_facts.specs.declared.root.RootKind.TheVariants as root
use Rattle.lk_values.specs.declared.cell.Cell.{Cell}
use Rattle.lk_cells.specs.Cells.{kind_at}
use Rattle.lk_cells.specs.Parts.{node_along}
use Rattle.lk_cells.specs.declared.kind.CellKind.{CellKind}
use Rattle.lk_cells.specs.declared.kind.CellKind.TheVariants as cell
use Rattle.lk_cells.specs.declared.object.Object.{Object}
use Rattle.lk_cells.specs.declared.state.State.{State}

-- whether the cells of a root's objects are locations: it is no string literal and no function
abbrev pub has_locations : RootKind → Bool
has_locations root.Global = true
has_locations root.Static = true
has_locations root.Local = true
has_locations (root.Heap one) = true
has_locations root.Text = false
has_locations root.Argv = true
has_locations root.Args = true
has_locations root.Function = false

-- whether a cell is one: it is there, and is no mutex and no condition variable
abbrev pub is_value : Option CellKind → Bool
is_value None = false
is_value (Some cell.Value) = true
is_value (Some cell.Mutex) = false
is_value (Some cell.Condition) = false

module _ (program : Program) where
  -- the number of the root of an object, and the node of its type to which a path leads
  abbrev pub node_in : Object → List CellStep → Root → Option (ℕ × Node)
  node_in object path root =
      if has_locations root.kind
      then option_map (λ n. (object.root, n)) (node_along program.types (first (Start root.ty)) path)
      else None

  abbrev pub node_at : Object → List CellStep → Option (ℕ × Node)
  node_at object path =
      if is_value (kind_at program.types object path)
      then option_and_then (node_in object path) (slice_get program.roots object.root) else None

  -- the same of a cell that is a location
  abbrev pub node_of_cell : State → Cell → Option (ℕ × Node)
  node_of_cell s c = option_and_then (λ object. node_at object c.path) (slice_get s.objects c.object)

  -- the cell is of the location of this number
  pub record HasLocation (s : State) (c : Cell) (n : ℕ) : Type 0 where
    pub place : Place
    pub number : slice_get program.places n ≡ Some place
    pub known : IsNode program.types place.node
    pub is : node_of_cell s c ≡ Some (place.root, node_of program.types place.node)

  -- the number of the cell's location, and nothing exactly where it has none
  abbrev pub IsLocation : State → Cell → Option ℕ → Type 0
  IsLocation s c found = MatchOption found ((n : ℕ) → HasLocation s c n → ⊥) (HasLocation s c)
