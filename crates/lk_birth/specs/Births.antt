-- The births and ends of objects and frames (C99 5.1.2.2.1, 6.2.4, 6.5.2.2, 6.9.1; POSIX
-- pthread_create, pthread_exit).
use Rattle.std.specs.Prelude.{ℕ, ◌+◌, zero, suc, ◌++◌, Bool, true, false, ◌&&◌, List, [], ◌∷◌, map, Option, None, Some, slice_get, slice_set, option_and_then, unwrap_or, if◌then◌else◌, nat_eq, length}
use Rattle.std.specs.List.{position_from}
use Rattle.std.specs.Option.{option_map_or, option_eq}
use Rattle.lk_facts.specs.Program.{parameters_of, slots_of}
use Rattle.lk_facts.specs.declared.program.Program.{Program}
use Rattle.lk_facts.specs.declared.root.Holder.{Holder}
use Rattle.lk_facts.specs.declared.root.Holder.TheVariants as holder
use Rattle.lk_facts.specs.declared.root.Root.{Root}
use Rattle.lk_facts.specs.declared.root.RootKind.{RootKind}
use Rattle.lk_facts.specs.declared.root.RootKind.TheVariants as root
use Rattle.lk_values.specs.declared.value.Value.{Value}
use Rattle.lk_values.specs.declared.value.Value.TheVariants.{Indeterminate}
use Rattle.lk_cells.specs.Cells.{new_object, with_value}
use Rattle.lk_cells.specs.declared.object.Initial.TheVariants as initial
use Rattle.lk_cells.specs.declared.object.Object.{Object}
use Rattle.lk_cells.specs.declared.state.Frame.{Frame}
use Rattle.lk_cells.specs.declared.state.Local.{Local}
use Rattle.lk_cells.specs.declared.state.Thread.{Thread}
use Rattle.lk_birth.specs.declared.births.Made.{Made}

-- whether a root is an object of a function's frame
abbrev pub is_local : RootKind → Bool
is_local root.Global = false
is_local root.Static = false
is_local root.Local = true
is_local (root.Heap one) = false
is_local root.Text = false
is_local root.Argv = false
is_local root.Args = false
is_local root.Function = false

abbrev pub is_local_of : ℕ → Root → Bool
is_local_of f root = is_local root.kind && option_eq nat_eq root.function (Some f)

-- what may be there, as a list
abbrev pub listed : {X : Type 0} → Option X → List X
listed None = []
listed (Some x) = x ∷ []

-- the number of a root, where it is that of a local of the function
abbrev pub local_at : Program → ℕ → ℕ → Option ℕ
local_at program f r =
    option_and_then (λ root. if is_local_of f root then Some r else None) (slice_get program.roots r)

-- the roots of the locals of a function among the first so many roots, in their order
abbrev pub locals_below : Program → ℕ → ℕ → List ℕ
locals_below program f zero = []
locals_below program f (suc r) = locals_below program f r ++ listed (local_at program f r)

abbrev pub locals_of : Program → ℕ → List ℕ
locals_of program f = locals_below program f (length program.roots)

-- the type of a root
abbrev pub type_of_root : Program → ℕ → ℕ
type_of_root program r = option_map_or (λ root. root.ty) (slice_get program.roots r) 0

-- whether a parameter is held by this slot, or by this root
abbrev pub is_slot : ℕ → Holder → Bool
is_slot slot (holder.Root r) = false
is_slot slot (holder.Slot f s) = nat_eq s slot
is_slot slot (holder.Result f) = false
is_slot slot (holder.Point p) = false

abbrev pub is_root : ℕ → Holder → Bool
is_root r (holder.Root s) = nat_eq s r
is_root r (holder.Slot f s) = false
is_root r (holder.Result f) = false
is_root r (holder.Point p) = false

-- A call of the function f with the values of its arguments.
module _ (program : Program) (f : ℕ) (args : List Value) where
  -- the argument for the first parameter that passes the test (C99 6.5.2.2, 4)
  abbrev pub argument : (Holder → Bool) → Option Value
  argument test =
      option_and_then (slice_get args) (position_from test 0 (unwrap_or (parameters_of program f) []))

  -- what a slot begins with: a parameter with its argument, any other is
  -- indeterminate (C99 6.2.4, 5; 6.9.1, 10)
  abbrev pub first_in_slot : ℕ → Value
  first_in_slot slot = unwrap_or (argument (is_slot slot)) Indeterminate

  -- the first so many slots
  abbrev pub slots_below : ℕ → List Value
  slots_below zero = []
  slots_below (suc n) = slots_below n ++ first_in_slot n ∷ []

  abbrev pub first_slots : List Value
  first_slots = slots_below (option_map_or length (slots_of program f) 0)

  -- a local's object: a parameter begins with its argument, any other is indeterminate
  -- (C99 6.2.4, 5; 6.7.8, 10; 6.9.1, 10)
  abbrev pub bare_local : ℕ → Object
  bare_local r = new_object r (type_of_root program r) 1 initial.Indeterminate

  abbrev pub local_object : ℕ → Object
  local_object r = option_map_or (with_value (bare_local r) []) (argument (is_root r)) (bare_local r)

  abbrev pub local_objects : List Object
  local_objects = map local_object (locals_of program f)

-- the locals of roots, with the numbers of their objects, of which the first is given
abbrev pub numbered_from : ℕ → List ℕ → List Local
numbered_from first [] = []
numbered_from first (r ∷ more) = record { root = r; object = first } ∷ numbered_from (first + 1) more

-- the frame of a call, which begins at its entry, and the objects of its locals, where so many objects are
-- there already (C99 6.2.4, 5 and 6)
abbrev pub made_for : Program → ℕ → ℕ → ℕ → List Value → Made
made_for program first f entry args = record {
  frame = record {
    point = entry;
    slots = first_slots program f args;
    values = [];
    locals = numbered_from first (locals_of program f);
    created = None;
    next_cell = None;
  };
  objects = local_objects program f args;
}

-- a thread that begins with a frame
abbrev pub new_thread : Frame → Thread
new_thread frame = record { frame = frame; below = []; ended = false; joined = false; detached = false }

-- a list with one of its elements changed, where it is there
abbrev pub changed_at : {X : Type 0} → List X → ℕ → (X → X) → List X
changed_at xs i f = option_map_or (λ x. slice_set xs i (f x)) (slice_get xs i) xs
