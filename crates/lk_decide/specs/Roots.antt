-- The roots of objects: string literals, and what an allocation gave (C99 6.4.5, 7.20.3).
use Rattle.std.specs.Prelude.{ℕ, Bool, true, false, List, [], ◌∷◌, Option, None, Some, slice_get, option_and_then}
use Rattle.std.specs.Option.{option_map, option_map_or}
use Rattle.lk_facts.specs.declared.program.Program.{Program}
use Rattle.lk_facts.specs.declared.root.RootKind.{RootKind}
use Rattle.lk_facts.specs.declared.root.RootKind.TheVariants as root
use Rattle.lk_values.specs.Causes.{◌when◌}
use Rattle.lk_values.specs.declared.cell.Cell.{Cell}
use Rattle.lk_base.specs.declared.cell.CellStep.{CellStep}
use Rattle.lk_base.specs.declared.cell.CellStep.TheVariants.{Index}
use Rattle.lk_values.specs.declared.value.Value.{Value}
use Rattle.lk_values.specs.declared.why.Why.{Why}
use Rattle.lk_values.specs.declared.why.Why.TheVariants as why
use Rattle.lk_cells.specs.Places.{part_of}
use Rattle.lk_cells.specs.declared.state.State.{State}

-- whether a root is a string literal
abbrev pub is_text : RootKind → Bool
is_text root.Global = false
is_text root.Static = false
is_text root.Local = false
is_text (root.Heap one) = false
is_text root.Text = true
is_text root.Argv = false
is_text root.Args = false
is_text root.Function = false

-- where the pointer that an allocation gives leads to in its object: to the object itself, or to the
-- first of several (C99 7.20.3)
abbrev pub start_of : RootKind → Option (List CellStep)
start_of root.Global = None
start_of root.Static = None
start_of root.Local = None
start_of (root.Heap true) = Some []
start_of (root.Heap false) = Some (Index 0 ∷ [])
start_of root.Text = None
start_of root.Argv = None
start_of root.Args = None
start_of root.Function = None

abbrev pub root_kind : Program → ℕ → Option RootKind
root_kind program r = option_map (λ root. root.kind) (slice_get program.roots r)

module _ (program : Program) (s : State) where
  -- the kind of the root of an object
  abbrev pub kind_of_object : ℕ → Option RootKind
  kind_of_object o = option_and_then (λ object. root_kind program object.root) (slice_get s.objects o)

  -- whether the part is one of a string literal
  abbrev pub is_constant : Cell → Bool
  is_constant part = option_map_or is_text (kind_of_object part.object) false

  -- a string literal isn't written (C99 6.4.5, 6)
  abbrev pub constant : Option Value → Option Why
  constant v = why.ConstText when option_map_or is_constant (part_of s v) false
