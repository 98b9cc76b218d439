-- The pointers that points give to objects and their parts (C99 6.2.4, 6.5.2.1, 6.5.2.3).
use Rattle.std.specs.Prelude.{ℕ, Bool, true, false, [], find, Option, None, slice_get, option_and_then, nat_eq, ℤ}
use Rattle.std.specs.Option.{option_map}
use Rattle.lk_facts.specs.declared.program.Program.{Program}
use Rattle.lk_facts.specs.declared.root.RootKind.{RootKind}
use Rattle.lk_facts.specs.declared.root.RootKind.TheVariants as root
use Rattle.lk_cells.specs.Cells.{object_of_root}
use Rattle.lk_values.specs.Pointers as pointers
use Rattle.lk_values.specs.declared.cell.Pointer.{Pointer as PointerTo}
use Rattle.lk_cells.specs.declared.state.Frame.{Frame}
use Rattle.lk_cells.specs.declared.state.State.{State}
use Rattle.lk_values.specs.declared.value.Value.{Value}
use Rattle.lk_values.specs.declared.value.Value.TheVariants.{Pointer}
use Rattle.lk_cells.specs.Operands.{number_in, pointer_in}
use Rattle.lk_cells.specs.Places as places

-- the object of a local in its frame (C99 6.2.4, 5)
abbrev pub own_object : Frame → ℕ → Option ℕ
own_object frame r = option_map (λ local. local.object) (find (λ local. nat_eq local.root r) frame.locals)

-- the object of a root: the frame's own for a local, else the one of static storage (C99 6.2.4, 3 to 5)
abbrev pub object_of : State → Frame → ℕ → RootKind → Option ℕ
object_of s frame r root.Global = object_of_root s.objects r
object_of s frame r root.Static = object_of_root s.objects r
object_of s frame r root.Local = own_object frame r
object_of s frame r (root.Heap one) = None
object_of s frame r root.Text = object_of_root s.objects r
object_of s frame r root.Argv = object_of_root s.objects r
object_of s frame r root.Args = None
object_of s frame r root.Function = None

-- the pointer to a root's object (C99 6.3.2.1, 6.4.5, 6.5.1)
abbrev pub pointer_to_root : Program → State → Frame → ℕ → Option Value
pointer_to_root program s frame r =
    option_map (λ object. Pointer (pointers.pointer_to object []))
    (option_and_then (λ root. object_of s frame r root.kind) (slice_get program.roots r))

-- the pointer to a member of the struct that a pointer leads to (C99 6.5.2.3)
abbrev pub member_of : State → Option Value → ℕ → Option Value
member_of s v k =
    option_map (λ c. Pointer (pointers.into_member (record { part = c; past = false }) k))
    (places.part_of s v)

module _ (program : Program) (s : State) where
  -- the pointer to an element of an array, or a pointer moved by a number of elements (C99 6.5.2.1)
  abbrev pub indexed : Bool → Option Value → ℤ → Option PointerTo
  indexed true v n = option_and_then (λ c. places.element_of program.types s c n) (places.part_of s v)
  indexed false v n = option_and_then (λ at. places.moved_by program.types s at n) (pointer_in v)

-- what an index gives, by the values of its operands
abbrev pub index_of : Program → State → Bool → Option Value → Option Value → Option Value
index_of program s into v by = option_map Pointer (option_and_then (indexed program s into v) (number_in by))
