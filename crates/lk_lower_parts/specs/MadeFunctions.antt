-- The functions of the program, as they are made.
use Rattle.std.specs.Prelude.{◌≡◌, ◌+◌, ◌++◌, ℕ, Bool, true, false, List, [], ◌∷◌, Some, length, map, slice_get, get_or, take}
use Rattle.lk_facts.specs.declared.function.Function.{Function}
use Rattle.lk_facts.specs.declared.root.Holder.{Holder}
use Rattle.lk_facts.specs.declared.root.Holder.TheVariants as holder
use Rattle.lk_lower_expr.specs.Lowering.{declaration_of}
use Rattle.lk_lower_expr.specs.Programs.{IsBody}
use Rattle.lk_lower_parts.specs.FunctionNumbers.{AreFunctionNumbers}
use Rattle.lk_lower_parts.specs.Wholes.{IsWhole}
use Rattle.lk_lower_parts.specs.declared.names.Given.{Given}
use Rattle.lk_typed.specs.declared.entity.Declaration.{Declaration}
use Rattle.lk_typed.specs.declared.entity.Entity.{Entity}
use Rattle.lk_typed.specs.declared.unit.Body.{Body}
use Rattle.lk_typed.specs.declared.unit.Local.{Local}
use Rattle.lk_typed.specs.declared.whole.Linked.{Linked}
use Rattle.lk_typed.specs.declared.whole.Whole.{Whole}
use Rattle.lk_typed.specs.declared.whole.WholeEntity.{WholeEntity}
use Rattle.lk_types.specs.Table.{Table}
use Rattle.lk_types.specs.declared.c_type.CType.TheVariants.{Function as FunctionType}

-- what holds a local, by the number of its root or slot
abbrev pub holder_with : (slot : Bool) → (function number : ℕ) → Holder
holder_with true function number = holder.Slot function number
holder_with false function number = holder.Root number

abbrev pub holder_in : (function : ℕ) → (by_node : List ℕ) → Local → Holder
holder_in function by_node local = holder_with local.is_slot function (get_or by_node local.ordinal 0)

-- a function of the type has results of this one
abbrev pub GivesType : Table → (t result : ℕ) → Type 0
GivesType table t result =
    (params : List ℕ) × (dots : Bool) × (slice_get table.types t ≡ Some (FunctionType result params dots))

-- it is the program's entity of an entity that the source `s` defines
pub record IsOwn (whole : Whole) (linked : Linked) (s e : ℕ) (here : WholeEntity) : Type 0 where
  pub number : ℕ
  pub numbered : slice_get linked.entities e ≡ Some number
  pub is : slice_get whole.entities number ≡ Some here
  pub there : here.defined ≡ Some (s, e)

-- it is the function of the body, with this number; `points` and `by_node` have the
-- numbers of the source's nodes
pub record IsMade (whole : Whole) (s : ℕ) (linked : Linked) (body : Body) (function : ℕ)
    (points by_node slots : List ℕ) (is : Function) : Type 0 where
  pub entity : Entity
  pub here : WholeEntity
  pub by : Declaration
  pub at : slice_get linked.unit.entities body.entity ≡ Some entity
  pub own : IsOwn whole linked s body.entity here
  pub declared : declaration_of entity ≡ Some by
  pub name : is.name ≡ entity.name
  pub root_ : is.root ≡ get_or by_node by.ordinal 0
  pub entry : is.entry ≡ get_or points body.ordinal 0 + 0
  pub exit : is.exit ≡ get_or points body.ordinal 0 + 2
  pub parameters : is.parameters ≡ map (holder_in function by_node) (take body.parameters body.locals)
  pub result : GivesType whole.types here.ty is.result
  pub slots_ : is.slots ≡ slots

module _ (whole : Whole) (s : ℕ) (linked : Linked) (points by_node : List ℕ) (slots : List (List ℕ)) where
  -- it stands among functions under its number
  abbrev pub StandsMade : (body : Body) → (function : ℕ) → List Function → Type 0
  StandsMade body function functions =
      (is : Function) × (slice_get functions function ≡ Some is) × (types : List ℕ)
      × (slice_get slots function ≡ Some types) × IsMade whole s linked body function points by_node types is

  -- it is put behind others
  abbrev pub AddsMade : (body : Body) → (function : ℕ) → (old new : List Function) → Type 0
  AddsMade body function old new =
      (is : Function) × (new ≡ old ++ (is ∷ [])) × (types : List ℕ) × (slice_get slots function ≡ Some types)
      × IsMade whole s linked body function points by_node types is

module _ (given : Given) (slots : List (List ℕ)) where
  -- each function of the program has its number, and types of slots
  pub record HaveSlots : Type 0 where
    pub whole : IsWhole given.whole.now
    pub numbers : AreFunctionNumbers given.whole.now.sources given.functions.now
    pub as_many : length slots ≡ given.functions.now.count

  -- the functions of the source `s` are put behind those of the sources before it
  pub record AddsFunctions (s : ℕ) (old new : List Function) : Type 0 where
    pub linked : Linked
    pub source : slice_get given.whole.now.sources s ≡ Some linked
    pub behind : length old ≡ get_or given.functions.now.first s 0
    pub as_many : length new ≡ length old + length linked.unit.bodies
    pub kept : (n : ℕ) (is : Function) → slice_get old n ≡ Some is → slice_get new n ≡ Some is
    pub each : (b : ℕ) (body : Body) → slice_get linked.unit.bodies b ≡ Some body →
        StandsMade given.whole.now s linked (get_or given.points.now s [])
        (get_or given.by_node.now s []) slots body (length old + b) new

  -- the function of a body of the source `s`, by the tables
  abbrev pub StandsGiven : (s b : ℕ) → Linked → Body → List Function → Type 0
  StandsGiven s b linked body functions =
      StandsMade given.whole.now s linked (get_or given.points.now s []) (get_or given.by_node.now s []) slots
      body (get_or given.functions.now.first s 0 + b) functions

  -- they are the functions of all bodies
  pub record AreMade (functions : List Function) : Type 0 where
    pub count : length functions ≡ given.functions.now.count
    pub each : (s b : ℕ) (linked : Linked) (body : Body) → IsBody given.whole.now.sources s b linked body →
        StandsGiven s b linked body functions
