-- The first state of a program: its objects of static storage, and the thread that runs main
-- (C99 5.1.2.2.1, 6.2.4, 6.7.8).
use Rattle.std.specs.Prelude.{ℕ, zero, suc, ◌+◌, ◌<◌, ◌^◌, Bool, true, false, List, [], ◌∷◌, ◌++◌, map, fold, length, Option, None, Some, slice_get, option_and_then, pos}
use Rattle.std.specs.List.{enumerate_from, position_from}
use Rattle.std.specs.Option.{option_map, option_map_or}
use Rattle.lk_arith.specs.Conversions.{convert}
use Rattle.lk_base.specs.declared.kind.Kind.TheVariants as kind
use Rattle.lk_facts.specs.declared.initial.Initial.{Initial as Named}
use Rattle.lk_facts.specs.declared.initial.InitialValue.{InitialValue}
use Rattle.lk_facts.specs.declared.initial.InitialValue.TheVariants as begins
use Rattle.lk_facts.specs.Program.{entry_of, is_args, is_argv}
use Rattle.lk_facts.specs.declared.program.Program.{Program}
use Rattle.lk_facts.specs.declared.root.Root.{Root}
use Rattle.lk_facts.specs.declared.root.RootKind.{RootKind}
use Rattle.lk_facts.specs.declared.root.RootKind.TheVariants as sort
use Rattle.lk_types.specs.declared.c_type.CType.{CType}
use Rattle.lk_base.specs.declared.cell.CellStep.TheVariants.{Index}
use Rattle.lk_values.specs.Pointers.{pointer_to, pointer_past}
use Rattle.lk_values.specs.declared.value.Value.{Value}
use Rattle.lk_values.specs.declared.value.Value.TheVariants.{Number, Pointer, Function, Null}
use Rattle.lk_cells.specs.Cells.{new_object, form_at, number_of_type, with_value, object_of_root}
use Rattle.lk_cells.specs.declared.object.Initial.TheVariants as initial
use Rattle.lk_cells.specs.declared.object.Object.{Object}
use Rattle.lk_cells.specs.declared.state.State.{State}
use Rattle.lk_birth.specs.Births.{changed_at, listed, made_for, new_thread}
use Rattle.lk_birth.specs.declared.births.Made.{Made}

-- an object of static storage; a cell of which nothing is said is zero (C99 6.7.8, 10)
abbrev pub static_object : ℕ → ℕ → ℕ → Object
static_object r ty count = new_object r ty count initial.Zero

-- an object with bytes in its elements; a char is signed here (C99 6.2.5, 15; 6.4.5, 5)
abbrev pub with_byte : Object → ℕ × ℕ → Object
with_byte object entry =
    with_value object (Index entry.0 ∷ []) (Number kind.Char (convert kind.Char (pos entry.1)))

abbrev pub with_bytes : Object → List ℕ → Object
with_bytes object bytes = fold with_byte object (enumerate_from 0 bytes)

-- an object with pointers to the first elements of so many objects, from number 0 on
abbrev pub with_pointer : Object → ℕ → Object
with_pointer object i = with_value object (Index i ∷ []) (Pointer (pointer_to i (Index 0 ∷ [])))

abbrev pub with_pointers : Object → ℕ → Object
with_pointers object zero = object
with_pointers object (suc n) = with_pointer (with_pointers object n) n

-- the number of the first root whose kind passes the test
abbrev pub root_of : (RootKind → Bool) → Program → Option ℕ
root_of test program = position_from (λ root. test root.kind) 0 program.roots

-- The objects of the strings, each with a zero at its end; they have the first numbers (C99 5.1.2.2.1, 2).
abbrev pub string_object : ℕ → ℕ → List ℕ → Object
string_object r ty text = with_bytes (static_object r ty (length text + 1)) text

abbrev pub strings_of : Program → List (List ℕ) → ℕ → List Object
strings_of program strings r =
    option_map_or (λ root. map (string_object r root.ty) strings) (slice_get program.roots r) []

abbrev pub string_objects : Program → List (List ℕ) → List Object
string_objects program strings = option_map_or (strings_of program strings) (root_of is_args program) []

-- The one object of a root that has one at the start: of static storage, of a string literal, or of the
-- pointers to the strings, with a null at their end (C99 5.1.2.2.1, 2; 6.2.4, 3; 6.4.5, 5).
abbrev pub object_of_kind : List (List ℕ) → ℕ → Root → RootKind → Option Object
object_of_kind strings r root sort.Global = Some (static_object r root.ty 1)
object_of_kind strings r root sort.Static = Some (static_object r root.ty 1)
object_of_kind strings r root sort.Local = None
object_of_kind strings r root (sort.Heap one) = None
object_of_kind strings r root sort.Text =
    Some (with_bytes (static_object r root.ty (length root.bytes)) root.bytes)
object_of_kind strings r root sort.Argv =
    Some (with_pointers (static_object r root.ty (length strings + 1)) (length strings))
object_of_kind strings r root sort.Args = None
object_of_kind strings r root sort.Function = None

abbrev pub object_at_start : Program → List (List ℕ) → ℕ → Option Object
object_at_start program strings r =
    option_and_then (λ root. object_of_kind strings r root root.kind) (slice_get program.roots r)

-- the objects of the strings and of the first so many roots, before the initialisers are performed
abbrev pub objects_below : Program → List (List ℕ) → ℕ → List Object
objects_below program strings zero = string_objects program strings
objects_below program strings (suc r) =
    objects_below program strings r ++ listed (object_at_start program strings r)

abbrev pub bare_objects : Program → List (List ℕ) → List Object
bare_objects program strings = objects_below program strings (length program.roots)

-- what a cell of static storage begins with by its initialiser, where its type is of this form; nothing where
-- it is ready as it is (C99 6.6, 6.7.8)
abbrev pub first_value_of : List Object → CType → InitialValue → Option Value
first_value_of objects form (begins.Number n) = number_of_type form n
first_value_of objects form begins.Null = Some Null
first_value_of objects form (begins.Function f) = Some (Function f)
first_value_of objects form (begins.Address r path false) =
    option_map (λ o. Pointer (pointer_to o path)) (object_of_root objects r)
first_value_of objects form (begins.Address r path true) =
    option_map (λ o. Pointer (pointer_past o path)) (object_of_root objects r)
first_value_of objects form begins.Ready = None

-- what an entry of an initialiser puts into its object, where it puts something
abbrev pub first_in : Program → List Object → Named → Object → Option Value
first_in program objects entry object =
    option_and_then (λ form. first_value_of objects form entry.value)
    (form_at program.types object entry.path)

abbrev pub with_first : Program → List Object → Named → Object → Object
with_first program objects entry object =
    option_map_or (with_value object entry.path) (first_in program objects entry object) object

-- the objects with an entry of an initialiser (C99 6.7.8)
abbrev pub initialised : Program → List Object → Named → List Object
initialised program objects entry =
    option_map_or (λ o. changed_at objects o (with_first program objects entry))
    (object_of_root objects entry.root) objects

-- the objects at the start
abbrev pub first_objects : Program → List (List ℕ) → List Object
first_objects program strings = fold (initialised program) (bare_objects program strings) program.initials

-- the arguments of main, where it has parameters: how many strings there are, and the pointer to the
-- pointers to them (C99 5.1.2.2.1, 2)
abbrev pub argv_of : Program → List Object → List Value
argv_of program objects =
    option_map_or (λ o. Pointer (pointer_to o (Index 0 ∷ [])) ∷ [])
    (option_and_then (object_of_root objects) (root_of is_argv program)) []

abbrev pub main_args : Program → List Object → List (List ℕ) → List Value
main_args program objects strings = Number kind.Int (pos (length strings)) ∷ argv_of program objects

-- a state with one thread, which runs main
abbrev pub with_main : List Object → Made → State
with_main objects made =
    record { objects = objects ++ made.objects; threads = new_thread made.frame ∷ []; ended = false }

-- a state without threads
abbrev pub without_threads : List Object → State
without_threads objects = record { objects = objects; threads = []; ended = false }

-- main is called over these objects
abbrev pub main_called : Program → List (List ℕ) → List Object → State
main_called program strings objects = option_map_or
    (λ entry. with_main objects (made_for program (length objects) program.main entry (main_args program objects strings)))
    (entry_of program program.main)
    (without_threads objects)

-- The first state of a program with these strings as its arguments.
abbrev pub started : Program → List (List ℕ) → State
started program strings = main_called program strings (first_objects program strings)

-- each object and each thread of a state has a number that is less than 4,294,967,295
pub record IsSmall (s : State) : Type 0 where
  pub objects : length s.objects < 2 ^ 32
  pub threads : length s.threads < 2 ^ 32
