-- What the readers of `Points` read from the parts of a program.
use Rattle.std.specs.Prelude.{◌≤◌, ◌<◌, ℕ, [], zero, suc, Bool, true, false, List, Option, None, length, slice_get, is_some}
use Rattle.std.specs.Option.{option_map, option_map_or, option_and_then}
use Rattle.lk_base.specs.declared.spot.Spot.{Spot}
use Rattle.lk_facts.specs.Effects.{effect_of, entered, writes}
use Rattle.lk_facts.specs.declared.action.Action.{Action}
use Rattle.lk_facts.specs.declared.effect.Effect.{Effect}
use Rattle.lk_facts.specs.declared.place.Place.{Place}
use Rattle.lk_facts.specs.declared.program.Program.{Program}
use Rattle.lk_facts.specs.declared.root.Holder.{Holder}
use Rattle.lk_facts.specs.declared.root.Root.{Root}
use Rattle.lk_facts.specs.declared.root.RootKind.{RootKind}
use Rattle.lk_facts.specs.declared.root.RootKind.TheVariants as kind
use Rattle.lk_types.specs.declared.node.NodeId.{NodeId}

abbrev pub action_at : Program → ℕ → Option Action
action_at program p = option_map (λ point. point.action) (slice_get program.points p)

-- what a point's action is to the analysis
abbrev pub effect_at : Program → ℕ → Option Effect
effect_at program p = option_map (λ point. effect_of point.action) (slice_get program.points p)

-- the type of a point's value; a point past the end gives none
abbrev pub value_type_at : Program → ℕ → Option ℕ
value_type_at program p = option_and_then (λ point. point.value) (slice_get program.points p)

-- a point past the end has no successors, and isn't live
abbrev pub next_of : Program → ℕ → List ℕ
next_of program p = option_map_or (λ point. point.next) (slice_get program.points p) []

abbrev pub live_at : Program → ℕ → Bool
live_at program p = option_map_or (λ point. point.live) (slice_get program.points p) false

abbrev pub function_at : Program → ℕ → Option ℕ
function_at program p = option_map (λ point. point.function) (slice_get program.points p)

abbrev pub spot_of : Program → ℕ → Option Spot
spot_of program p = option_map (λ point. point.spot) (slice_get program.points p)

-- whether it goes into a function by its number
abbrev pub enters_at : Program → ℕ → Bool
enters_at program p =
    option_map_or (λ point. is_some (entered (effect_of point.action))) (slice_get program.points p) false

-- whether it accesses cells and writes them
abbrev pub writes_at : Program → ℕ → Bool
writes_at program p =
    option_map_or (λ point. writes (effect_of point.action)) (slice_get program.points p) false

abbrev pub site_at : Program → ℕ → Option ℕ
site_at program p = option_and_then (λ point. point.site) (slice_get program.points p)

abbrev pub name_of : Program → ℕ → Option (List ℕ)
name_of program f = option_map (λ function. function.name) (slice_get program.functions f)

abbrev pub root_of_function : Program → ℕ → Option ℕ
root_of_function program f = option_map (λ function. function.root) (slice_get program.functions f)

abbrev pub entry_of : Program → ℕ → Option ℕ
entry_of program f = option_map (λ function. function.entry) (slice_get program.functions f)

abbrev pub exit_of : Program → ℕ → Option ℕ
exit_of program f = option_map (λ function. function.exit) (slice_get program.functions f)

abbrev pub slots_of : Program → ℕ → Option (List ℕ)
slots_of program f = option_map (λ function. function.slots) (slice_get program.functions f)

abbrev pub result_of : Program → ℕ → Option ℕ
result_of program f = option_map (λ function. function.result) (slice_get program.functions f)

abbrev pub value_site_of : Program → ℕ → Option ℕ
value_site_of program f = option_and_then (λ function. function.value_site) (slice_get program.functions f)

-- what holds the parameter k of a function, counted from 1
abbrev pub parameter_of : Program → ℕ → ℕ → Option Holder
parameter_of program f zero = None
parameter_of program f (suc k) =
    option_and_then (λ function. slice_get function.parameters k) (slice_get program.functions f)

-- what holds the parameters of a function, in their order
abbrev pub parameters_of : Program → ℕ → Option (List Holder)
parameters_of program f = option_map (λ function. function.parameters) (slice_get program.functions f)

abbrev pub root_at : Program → ℕ → Option Root
root_at program r = slice_get program.roots r

-- a root is that of the strings of main's arguments, or of the pointers to them (C99 5.1.2.2.1, 2)
abbrev pub is_args : RootKind → Bool
is_args kind.Global = false
is_args kind.Static = false
is_args kind.Local = false
is_args (kind.Heap one) = false
is_args kind.Text = false
is_args kind.Argv = false
is_args kind.Args = true
is_args kind.Function = false

abbrev pub is_argv : RootKind → Bool
is_argv kind.Global = false
is_argv kind.Static = false
is_argv kind.Local = false
is_argv (kind.Heap one) = false
is_argv kind.Text = false
is_argv kind.Argv = true
is_argv kind.Args = false
is_argv kind.Function = false

-- the function that a root of this kind stands for
abbrev pub function_of_kind : RootKind → Option ℕ → Option ℕ
function_of_kind kind.Function f = f
function_of_kind kind.Global f = None
function_of_kind kind.Static f = None
function_of_kind kind.Local f = None
function_of_kind (kind.Heap one) f = None
function_of_kind kind.Text f = None
function_of_kind kind.Argv f = None
function_of_kind kind.Args f = None

-- the function that a root stands for
abbrev pub function_of_root : Program → ℕ → Option ℕ
function_of_root program r =
    option_and_then (λ root. function_of_kind root.kind root.function) (slice_get program.roots r)

abbrev pub place_of : ℕ → NodeId → Place
place_of root node = record { root = root; node = node }

-- the place of the location or lock place n, counted as labels count them
abbrev pub place_at : Program → ℕ → Option Place
place_at program n = slice_get program.places n

-- the label is that of a location
abbrev pub IsLocation : Program → ℕ → Type 0
IsLocation program n = n < program.locations

-- the label is that of a lock place
abbrev pub IsLockPlace : Program → ℕ → Type 0
IsLockPlace program q = (program.locations ≤ q) × (q < length program.places)
