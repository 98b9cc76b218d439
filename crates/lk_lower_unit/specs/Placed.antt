-- Points that are put at their numbers. Only the private calls of this crate speak of them.
use Rattle.std.specs.Prelude.{◌≡◌, ◌↔◌, ◌<◌, ◌≤◌, ◌+◌, ◌^◌, ℕ, nat_eq, nat_lt, All, Bool, true, false, List, [], ◌∷◌, Option, None, Some, length, slice_get, get_or, if◌then◌else◌}
use Rattle.std.specs.List.{Contains}
use Rattle.lk_facts.specs.Live.{IsReached}
use Rattle.lk_facts.specs.declared.function.Function.{Function}
use Rattle.lk_facts.specs.declared.point.Point.{Point}
use Rattle.lk_facts.specs.declared.program.Program.{Program}
use Rattle.lk_lower_expr.specs.Cells.{cell_node}
use Rattle.lk_lower_expr.specs.Lowering.{Counts, Numbers, StandsIn, place_in}
use Rattle.lk_lower_expr.specs.Naming.{at_of}
use Rattle.lk_lower_expr.specs.declared.names.SourceNames.{SourceNames}
use Rattle.lk_lower_expr.specs.declared.step.Step.{Step}
use Rattle.lk_lower_parts.specs.FunctionNumbers.{AreFunctionNumbers}
use Rattle.lk_lower_parts.specs.Givens.{at_node}
use Rattle.lk_lower_parts.specs.Tables.{ArePointerRows}
use Rattle.lk_lower_parts.specs.Wanted.{AreDifferent}
use Rattle.lk_lower_parts.specs.declared.counts.FunctionNumbers.{FunctionNumbers}
use Rattle.lk_lower_parts.specs.declared.names.Given.{Given}
use Rattle.lk_lower_unit.specs.PointNumbers.{HasStep}
use Rattle.lk_lower_unit.specs.Tables.{StandInPrograms}
use Rattle.lk_lower_unit.specs.declared.standing.StandingStep.{StandingStep}
use Rattle.lk_typed.specs.declared.whole.Linked.{Linked}
use Rattle.lk_typed.specs.declared.whole.Whole.{Whole}
use Rattle.lk_types.specs.Table.{Table}
use Rattle.lk_types.specs.declared.c_type.CType.{CType}
use Rattle.lk_types.specs.declared.c_type.CType.TheVariants.{Void, Int, ThreadId, Mutex, Cond, Pointer, Array, Struct, Function as FunctionType, Opaque}

-- ---- the numbers of the program

-- whether a type is the pointer to a type
abbrev pub is_pointer_to : ℕ → CType → Bool
is_pointer_to t Void = false
is_pointer_to t (Int k) = false
is_pointer_to t ThreadId = false
is_pointer_to t Mutex = false
is_pointer_to t Cond = false
is_pointer_to t (Pointer u) = nat_eq u t
is_pointer_to t (Array u n) = false
is_pointer_to t (Struct s) = false
is_pointer_to t (FunctionType result params dots) = false
is_pointer_to t (Opaque n) = false

-- where it stands among types; behind them all where it doesn't
abbrev pub pointer_in : List CType → ℕ → ℕ
pointer_in forms t = place_in (is_pointer_to t) forms

module _ (whole : Whole) (functions : FunctionNumbers) (points by_node : List (List ℕ)) (table : Table) where
  -- the functions of a source that isn't there have no numbers
  abbrev pub function_number : (s b : ℕ) → ℕ
  function_number s b = if nat_lt s (length whole.sources) then get_or functions.first s 0 + b else 0

  -- the numbers that tables hold
  abbrev pub numbers_by : Numbers
  numbers_by = record {
    point = λ s o k. at_node points s o + k;
    root = at_node by_node;
    slot = at_node by_node;
    function = function_number;
    pointer = pointer_in table.types;
    node = cell_node table;
  }

abbrev pub numbers_of : Given → Table → Numbers
numbers_of given table =
    numbers_by given.whole.now given.functions.now given.points.now given.by_node.now table

-- the tables hold the numbers of functions and of pointers
pub record AreFound (given : Given) (table : Table) : Type 0 where
  pub functions : AreFunctionNumbers given.whole.now.sources given.functions.now
  pub pointers : ArePointerRows table given.whole.now.sources given.pointers.now
  pub different : AreDifferent table.types
  -- so the names of each source are few
  pub small : (s : ℕ) → All (λ base. base < 2 ^ 31) (get_or given.points.now s [])

-- so many points have numbers, whatever else is in the program
pub record AreCounted (given : Given) (table : Table) (count : ℕ) : Type 0 where
  pub order : (program : Program) →
      Counts (HasStep given.whole.now (numbers_of given table) program) 0 count (numbers_of given table).point
  pub few : count ≤ 65536

-- ---- points

-- the point of a step. Whether it is live, and its site, isn't known yet
abbrev pub point_of : Step → ℕ → Point
point_of is function =
    record { action = is.does; value = is.gives; next = is.next; function = function; spot = is.spot; live = false; site = None }

-- the points that stand at numbers stay there
abbrev pub AreKept : List (Option Point) → List (Option Point) → Type 0
AreKept old new = (n : ℕ) (point : Point) → slice_get old n ≡ Some (Some point) →
    slice_get new n ≡ Some (Some point)

-- the step has one of so many numbers
pub record HasNumber (names : SourceNames) (count : ℕ) (one : StandingStep) : Type 0 where
  pub few : one.step.step < 2 ^ 31
  pub within : at_of names one.step.node one.step.step < count

-- the point of the step stands at its number
abbrev pub StandsAt : SourceNames → StandingStep → List (Option Point) → Type 0
StandsAt names one points =
    slice_get points (at_of names one.step.node one.step.step)
    ≡ Some (Some (point_of one.step.is one.function))

-- points are put beside others
pub record ArePutBeside (old new : List (Option Point)) : Type 0 where
  pub as_many : length new ≡ length old
  pub kept : AreKept old new

pub record PlacesOne (names : SourceNames) (one : StandingStep) (old new : List (Option Point)) : Type 0 where
  pub beside : ArePutBeside old new
  pub there : StandsAt names one new

pub record PlacesAll (names : SourceNames) (steps : List StandingStep)
    (old new : List (Option Point)) : Type 0 where
  pub beside : ArePutBeside old new
  pub there : (one : StandingStep) → Contains steps one → StandsAt names one new

-- in each program they are the steps of the source `s`, by its names
abbrev pub AreStepsOf : Given → Table → (s : ℕ) → SourceNames → List StandingStep → Type 0
AreStepsOf given table s names steps =
    (linked : Linked) × (slice_get given.whole.now.sources s ≡ Some linked)
    × StandInPrograms linked.unit (cell_node table) (get_or given.functions.now.first s 0)
    given.functions.now.count names steps

-- the points of the source `s` stand at their numbers, in each program with so many functions
abbrev pub ArePlaced : Given → Table → (s : ℕ) → List (Option Point) → Type 0
ArePlaced given table s points = (program : Program) (o k : ℕ) (is : Step) (function : ℕ) →
    given.functions.now.count ≡ length program.functions →
    StandsIn given.whole.now (numbers_of given table) program s o k is function →
    slice_get points ((numbers_of given table).point s o k) ≡ Some (Some (point_of is function))

pub record PlacesSource (given : Given) (table : Table) (s : ℕ) (old new : List (Option Point)) : Type 0 where
  pub beside : ArePutBeside old new
  pub placed : ArePlaced given table s new

-- the same of all sources, where each number is that of a point
pub record AreAllPlaced (given : Given) (table : Table) (count : ℕ) (points : List Point) : Type 0 where
  pub as_many : length points ≡ count
  pub placed : (program : Program) (s o k : ℕ) (is : Step) (function : ℕ) →
      given.functions.now.count ≡ length program.functions →
      StandsIn given.whole.now (numbers_of given table) program s o k is function →
      slice_get points ((numbers_of given table).point s o k) ≡ Some (point_of is function)

-- ---- what follows from one another

abbrev pub with_life : Bool → Point → Point
with_life live point =
    record {
      action = point.action;
      value = point.value;
      next = point.next;
      function = point.function;
      spot = point.spot;
      live = live;
      site = point.site;
    }

-- the same points, where it is said of the first of them which are live
abbrev pub lived : List Bool → List Point → List Point
lived [] points = points
lived (live ∷ others) [] = []
lived (live ∷ others) (point ∷ points) = with_life live point ∷ lived others points

-- of each point it is said whether successors lead to it from the entry of a function
abbrev pub AreLive : List Function → List Point → List Bool → Type 0
AreLive functions points live = (p : ℕ) → (slice_get live p ≡ Some true) ↔ IsReached points functions p

-- the same points, of which it is said which are live
pub record AreAlive (functions : List Function) (old new : List Point) : Type 0 where
  pub live : List Bool
  pub long : length live ≡ length old
  pub are : AreLive functions old live
  pub said : new ≡ lived live old
